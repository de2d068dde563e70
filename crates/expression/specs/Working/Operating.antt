-- Working laws: the ways out of the operators. Assumes nothing.
use Rattle.std.specs.Prelude.{◌≡◌, refl, Bool, true, false, List, ◌++◌, map, ℕ, ◌+◌, ◌-◌, ◌<◌, ◌≤◌, max, Float as Single, Some, None}
use Rattle.std.proofs.Common.{sym, ◌∙◌, arith}
use Rattle.std.proofs.Math.Path.{ap}
use Rattle.std.proofs.Math.Bool.{not}
use Rattle.std.proofs.Math.ListN.{length, length-append}
use Rattle.std.proofs.lemmas.List.{length-map}
use Rattle.std.specs.Float.{binary32}
use Rattle.std.specs.Float.Ieee.{lt, le, to_bits}
use borrow.Author.Tests.{lt-ltb, le-ltb, le-leb, lt-leb, eq-eqb, ne_eqb}
use Rattle.text.specs.Choice.{pick, clash, bool_iff}
use Rattle.text.specs.Counted.{counted}
use Rattle.text.specs.Equal.{equal, equal-refl, equal-true}
use Rattle.text.specs.Order.{order}
use Rattle.text.specs.OrderLaws.{order-refl, order-equal}
use Rattle.text.specs.Decimal.{integer as signed, decimal}
use Rattle.text.specs.declared.Integer.{Integer}
use Rattle.std.specs.declared.cmp.Ordering.{Ordering as Order}
use Rattle.std.specs.Ordering.{is_eq, is_ne, is_lt, is_gt, is_le, is_ge}
use Rattle.pattern.specs.Test.{test_of}
use Rattle.pattern.specs.Verdict.{Answer}
use Rattle.std.specs.declared.cmp.Ordering.TheVariants.{Less, Equal, Greater}
use Rattle.float.specs.Written.{float_of}
use Rattle.float.specs.Operations as Floats
use Rattle.float.specs.Operations.{Computed}
use Rattle.expression.specs.Value.{Value, text, integer, test, float, fault, operand, on_text, on_integer, on_test, on_float}
use Rattle.expression.specs.Operands.{size_of, value_of, is_text, is_number, integer_in, is_float, float_in, is_test, holds_in, rank_in, test_in}
use Rattle.expression.specs.Integers.{plus, minus, times, over, remainder, power, negated, compared}
use Rattle.expression.specs.Operations.{is_less, is_equal, is_greater, answered, matched, valued, held, converted, negative, opposite, to_float, float_negative}
use Rattle.expression.specs.Working.Numbered.{relates_by, arithmetic, textual, ordered_by, floating, of_texts, of_integers, of_floats, of_tests, is_textual, binary_by}
use Rattle.expression.specs.Conditions.{index_from, rank_of, gate, top}
use Rattle.expression.specs.Working.Clauses.{applied, combined}
use Rattle.expression.specs.declared.value.Operand.{Operand}
use Rattle.expression.specs.declared.value.Operand.TheVariants.{Text, Number, Test, Rank, Float, Fault}
use Rattle.limits.specs.Limits.{most_string}

-- the ways out of `integer_in`
module _ (v : Operand) where
  pub in-text : (n : ℕ) → v ≡ Text n → signed false 0 ≡ integer_in v
  unfolding integer_in
  in-text n e = rw e

  pub in-number : (b : Bool) (n : ℕ) → v ≡ Number b n → signed b n ≡ integer_in v
  unfolding integer_in
  in-number b n e = rw e

  pub in-test : (b : Bool) → v ≡ Test b → signed false 0 ≡ integer_in v
  unfolding integer_in
  in-test b e = rw e

  pub in-rank : (n : ℕ) → v ≡ Rank n → signed false 0 ≡ integer_in v
  unfolding integer_in
  in-rank n e = rw e

  pub in_float : (x : Single) → v ≡ Float x → signed false 0 ≡ integer_in v
  unfolding integer_in
  in_float x e = rw e

  pub in-fault : v ≡ Fault → signed false 0 ≡ integer_in v
  unfolding integer_in
  in-fault e = rw e

-- a way out of `size_of`
pub size-float : (v : Operand) (x : Single) (r : ℕ) → v ≡ Float x → r ≡ to_bits binary32 x → r ≡ size_of v
unfolding size_of
size-float v x r e h = rw e h

-- an operand of the kind that is wanted, and one of another
text-is : (x : Operand) (a : List ℕ) → is_text x ≡ true → value_of x a ≡ text a
unfolding is_text value_of
text-is (Text n) a h = refl
text-is (Number b n) a h = cc
text-is (Test b) a h = cc
text-is (Rank n) a h = cc
text-is (Float f) a h = cc
text-is Fault a h = cc

no_text : (f : List ℕ → Value) (x : Operand) (a : List ℕ) → is_text x ≡ false → on_text f (value_of x a) ≡ fault
unfolding is_text value_of
no_text f (Text n) a h = cc
no_text f (Number b n) a h = refl
no_text f (Test b) a h = refl
no_text f (Rank n) a h = refl
no_text f (Float g) a h = refl
no_text f Fault a h = refl

number_is : (x : Operand) (a : List ℕ) → is_number x ≡ true → value_of x a ≡ integer (integer_in x)
unfolding is_number value_of integer_in
number_is (Text n) a h = cc
number_is (Number b n) a h = refl
number_is (Test b) a h = cc
number_is (Rank n) a h = cc
number_is (Float f) a h = cc
number_is Fault a h = cc

no_number : (f : Integer → Value) (x : Operand) (a : List ℕ) → is_number x ≡ false → on_integer f (value_of x a) ≡ fault
unfolding is_number value_of
no_number f (Text n) a h = refl
no_number f (Number b n) a h = cc
no_number f (Test b) a h = refl
no_number f (Rank n) a h = refl
no_number f (Float g) a h = refl
no_number f Fault a h = refl

float_is : (x : Operand) (a : List ℕ) → is_float x ≡ true → value_of x a ≡ float (float_in x)
unfolding is_float value_of float_in
float_is (Text n) a h = cc
float_is (Number b n) a h = cc
float_is (Test b) a h = cc
float_is (Rank n) a h = cc
float_is (Float f) a h = refl
float_is Fault a h = cc

no-float : (f : Single → Value) (x : Operand) (a : List ℕ) → is_float x ≡ false → on_float f (value_of x a) ≡ fault
unfolding is_float value_of
no-float f (Text n) a h = refl
no-float f (Number b n) a h = refl
no-float f (Test b) a h = refl
no-float f (Rank n) a h = refl
no-float f (Float g) a h = cc
no-float f Fault a h = refl

pub test-is : (x : Operand) (a : List ℕ) → is_test x ≡ true → value_of x a ≡ test (holds_in x)
unfolding is_test value_of holds_in
test-is (Text n) a h = cc
test-is (Number b n) a h = cc
test-is (Test b) a h = refl
test-is (Rank n) a h = cc
test-is (Float f) a h = cc
test-is Fault a h = cc

pub no_test : (f : Bool → Value) (x : Operand) (a : List ℕ) → is_test x ≡ false → on_test f (value_of x a) ≡ fault
unfolding is_test value_of
no_test f (Text n) a h = refl
no_test f (Number b n) a h = refl
no_test f (Test b) a h = cc
no_test f (Rank n) a h = refl
no_test f (Float g) a h = refl
no_test f Fault a h = refl

pub test_in_lem : (x : Operand) (a : List ℕ) → test_in x ≡ operand (on_test test (value_of x a))
unfolding test_in is_test value_of operand
test_in_lem (Text n) a = refl
test_in_lem (Number b n) a = refl
test_in_lem (Test b) a = refl
test_in_lem (Rank n) a = refl
test_in_lem (Float f) a = refl
test_in_lem Fault a = refl

gate-is : (x : Operand) (a : List ℕ) (n : ℕ) → pick (holds_in x) n 0 ≡ gate (value_of x a) n
unfolding holds_in value_of
gate-is (Text m) a n = refl
gate-is (Number b m) a n = refl
gate-is (Test b) a n = refl
gate-is (Rank m) a n = refl
gate-is (Float f) a n = refl
gate-is Fault a n = refl

rank_is : (x : Operand) (a : List ℕ) → rank_in x ≡ rank_in (operand (value_of x a))
unfolding rank_in operand value_of
rank_is (Text m) a = refl
rank_is (Number b m) a = refl
rank_is (Test b) a = refl
rank_is (Rank m) a = refl
rank_is (Float f) a = refl
rank_is Fault a = refl

no-rank : (vals : List (List ℕ)) (x : Operand) (a : List ℕ) → is_text x ≡ false → rank_of vals (value_of x a) ≡ 0
unfolding is_text value_of rank_of
no-rank vals (Text n) a h = cc
no-rank vals (Number b n) a h = refl
no-rank vals (Test b) a h = refl
no-rank vals (Rank n) a h = refl
no-rank vals (Float f) a h = refl
no-rank vals Fault a h = refl

-- the ways out of `relation`
module _ (k : ℕ) (o : Order) (r : Bool) where
  pub relates-equal : k ≡ 0 → r ≡ is_equal o → r ≡ relates_by k o
  unfolding relates_by
  relates-equal h e = e ∙ simp (eq-eqb _ _ h)

  module _ (n0 : k ≡ 0 → ⊥) where
    pub relates-unequal : (q : Bool) → q ≡ is_equal o → k ≡ 1 → r ≡ not q → r ≡ relates_by k o
    unfolding relates_by
    relates-unequal q qe h e = e ∙ simp (qe, ne_eqb _ _ n0, eq-eqb _ _ h)

    module _ (n1 : k ≡ 1 → ⊥) where
      pub relates-less : k ≡ 2 → r ≡ is_less o → r ≡ relates_by k o
      unfolding relates_by
      relates-less h e = e ∙ simp (ne_eqb _ _ n0, ne_eqb _ _ n1, eq-eqb _ _ h)

      module _ (n2 : k ≡ 2 → ⊥) where
        pub relates-greater : k ≡ 3 → r ≡ is_greater o → r ≡ relates_by k o
        unfolding relates_by
        relates-greater h e = e ∙ simp (ne_eqb _ _ n0, ne_eqb _ _ n1, ne_eqb _ _ n2, eq-eqb _ _ h)

        module _ (n3 : k ≡ 3 → ⊥) (q : Bool) where
          pub relates-most : q ≡ is_greater o → k ≡ 4 → r ≡ not q → r ≡ relates_by k o
          unfolding relates_by
          relates-most qe h e = e ∙ simp (qe, ne_eqb _ _ n0, ne_eqb _ _ n1, ne_eqb _ _ n2, ne_eqb _ _ n3, eq-eqb _ _ h)

          pub relates-least : q ≡ is_less o → (k ≡ 4 → ⊥) → r ≡ not q → r ≡ relates_by k o
          unfolding relates_by
          relates-least qe n4 e = e ∙ simp (qe, ne_eqb _ _ n0, ne_eqb _ _ n1, ne_eqb _ _ n2, ne_eqb _ _ n3, ne_eqb _ _ n4)

-- the library's tests of an order
pub eq-is : (o : Order) → is_eq o ≡ is_equal o
eq-is Less = refl
eq-is Equal = refl
eq-is Greater = refl

pub ne-is : (o : Order) → is_ne o ≡ not (is_equal o)
ne-is Less = refl
ne-is Equal = refl
ne-is Greater = refl

pub lt-is : (o : Order) → is_lt o ≡ is_less o
lt-is Less = refl
lt-is Equal = refl
lt-is Greater = refl

pub gt-is : (o : Order) → is_gt o ≡ is_greater o
gt-is Less = refl
gt-is Equal = refl
gt-is Greater = refl

pub le-is : (o : Order) → is_le o ≡ not (is_greater o)
le-is Less = refl
le-is Equal = refl
le-is Greater = refl

pub ge-is : (o : Order) → is_ge o ≡ not (is_less o)
ge-is Less = refl
ge-is Equal = refl
ge-is Greater = refl

pub ruleset orders = (eq-is, ne-is, lt-is, gt-is, le-is, ge-is, eq-eqb, ne_eqb)

-- the ways out of `of_integers`
module _ (op : ℕ) (a b : Integer) (r : Operand) where
  pub does-power : op ≡ 13 → r ≡ operand (power a b) → r ≡ operand (arithmetic op a b)
  unfolding arithmetic
  does-power h e = e ∙ simp (eq-eqb _ _ h)

  module _ (n13 : op ≡ 13 → ⊥) where
    pub does-times : op ≡ 14 → r ≡ operand (times a b) → r ≡ operand (arithmetic op a b)
    unfolding arithmetic
    does-times h e = e ∙ simp (ne_eqb _ _ n13, eq-eqb _ _ h)

    module _ (n14 : op ≡ 14 → ⊥) where
      pub does-over : op ≡ 15 → r ≡ operand (over a b) → r ≡ operand (arithmetic op a b)
      unfolding arithmetic
      does-over h e = e ∙ simp (ne_eqb _ _ n13, ne_eqb _ _ n14, eq-eqb _ _ h)

      module _ (n15 : op ≡ 15 → ⊥) where
        pub does-rest : op ≡ 16 → r ≡ operand (remainder a b) → r ≡ operand (arithmetic op a b)
        unfolding arithmetic
        does-rest h e = e ∙ simp (ne_eqb _ _ n13, ne_eqb _ _ n14, ne_eqb _ _ n15, eq-eqb _ _ h)

        module _ (n16 : op ≡ 16 → ⊥) where
          pub does-plus : op ≡ 17 → r ≡ operand (plus a b) → r ≡ operand (arithmetic op a b)
          unfolding arithmetic
          does-plus h e = e ∙ simp (ne_eqb _ _ n13, ne_eqb _ _ n14, ne_eqb _ _ n15, ne_eqb _ _ n16, eq-eqb _ _ h)

          module _ (n17 : op ≡ 17 → ⊥) where
            pub does-minus : op ≡ 18 → r ≡ operand (minus a b) → r ≡ operand (arithmetic op a b)
            unfolding arithmetic
            does-minus h e = e ∙ simp (ne_eqb _ _ n13, ne_eqb _ _ n14, ne_eqb _ _ n15, ne_eqb _ _ n16, ne_eqb _ _ n17, eq-eqb _ _ h)

module _ (op : ℕ) (a b : Integer) (n13 : op ≡ 13 → ⊥) (n14 : op ≡ 14 → ⊥) (n15 : op ≡ 15 → ⊥) (n16 : op ≡ 16 → ⊥) (n17 : op ≡ 17 → ⊥) (n18 : op ≡ 18 → ⊥) where
  pub does-compare : (o : Order) → o ≡ compared a b → (k : ℕ) → k ≡ op - 26 → (t : Bool) → t ≡ relates_by k o → Test t ≡ operand (arithmetic op a b)
  unfolding arithmetic operand
  does-compare o oe k ke t te = rw (te, ke, oe) (simp (ne_eqb _ _ n13, ne_eqb _ _ n14, ne_eqb _ _ n15, ne_eqb _ _ n16, ne_eqb _ _ n17, ne_eqb _ _ n18))

-- the ways out of `value_of`
module _ (x : Computed) where
  pub value-finite : (y : Single) → x ≡ Some y → Float y ≡ operand (valued x)
  unfolding operand
  value-finite y e = rw e

  pub value-error : x ≡ None → Fault ≡ operand (valued x)
  unfolding operand
  value-error e = rw e

-- the ways out of `float_relation`
module _ (op : ℕ) (a b : Single) where
  pub float-less : op ≡ 37 → lt a b ≡ ordered_by op a b
  unfolding ordered_by
  float-less h = simp (eq-eqb _ _ h)

  module _ (n37 : op ≡ 37 → ⊥) where
    pub float-greater : op ≡ 38 → lt b a ≡ ordered_by op a b
    unfolding ordered_by
    float-greater h = simp (ne_eqb _ _ n37, eq-eqb _ _ h)

    module _ (n38 : op ≡ 38 → ⊥) where
      pub float-most : op ≡ 39 → le a b ≡ ordered_by op a b
      unfolding ordered_by
      float-most h = simp (ne_eqb _ _ n37, ne_eqb _ _ n38, eq-eqb _ _ h)

      pub float-least : (op ≡ 39 → ⊥) → le b a ≡ ordered_by op a b
      unfolding ordered_by
      float-least n39 = simp (ne_eqb _ _ n37, ne_eqb _ _ n38, ne_eqb _ _ n39)

-- the ways out of `of_floats`
module _ (op : ℕ) (a b : Single) where
  module _ (c : Computed) (r : Operand) (e : r ≡ operand (valued c)) where
    pub floats-power : op ≡ 32 → c ≡ Floats.power a b → r ≡ operand (floating op a b)
    unfolding floating
    floats-power h ce = e ∙ rw ce (simp (eq-eqb _ _ h))

    module _ (n32 : op ≡ 32 → ⊥) where
      pub floats-times : op ≡ 33 → c ≡ Floats.times a b → r ≡ operand (floating op a b)
      unfolding floating
      floats-times h ce = e ∙ rw ce (simp (ne_eqb _ _ n32, eq-eqb _ _ h))

      module _ (n33 : op ≡ 33 → ⊥) where
        pub floats-over : op ≡ 34 → c ≡ Floats.over a b → r ≡ operand (floating op a b)
        unfolding floating
        floats-over h ce = e ∙ rw ce (simp (ne_eqb _ _ n32, ne_eqb _ _ n33, eq-eqb _ _ h))

        module _ (n34 : op ≡ 34 → ⊥) where
          pub floats-plus : op ≡ 35 → c ≡ Floats.plus a b → r ≡ operand (floating op a b)
          unfolding floating
          floats-plus h ce = e ∙ rw ce (simp (ne_eqb _ _ n32, ne_eqb _ _ n33, ne_eqb _ _ n34, eq-eqb _ _ h))

          module _ (n35 : op ≡ 35 → ⊥) where
            pub floats-minus : op ≡ 36 → c ≡ Floats.minus a b → r ≡ operand (floating op a b)
            unfolding floating
            floats-minus h ce = e ∙ rw ce (simp (ne_eqb _ _ n32, ne_eqb _ _ n33, ne_eqb _ _ n34, ne_eqb _ _ n35, eq-eqb _ _ h))

  pub floats-compare : (op ≡ 32 → ⊥) → (op ≡ 33 → ⊥) → (op ≡ 34 → ⊥) → (op ≡ 35 → ⊥) → (op ≡ 36 → ⊥) → (t : Bool) → t ≡ ordered_by op a b → Test t ≡ operand (floating op a b)
  unfolding floating operand
  floats-compare n32 n33 n34 n35 n36 t te = rw te (simp (ne_eqb _ _ n32, ne_eqb _ _ n33, ne_eqb _ _ n34, ne_eqb _ _ n35, ne_eqb _ _ n36))

-- the ways out of `join`
held-over : (b : List ℕ) → most_string < length b → Fault ≡ operand (held b)
unfolding held operand
held-over b h = rw (lt-ltb most_string (length b) h)

module _ (a b : List ℕ) where
  pub join-left : most_string < length a → Fault ≡ operand (held (a ++ b))
  join-left h = held-over (a ++ b) (rw length-append (omega arith))

  pub join-right : most_string < length b → Fault ≡ operand (held (a ++ b))
  join-right h = held-over (a ++ b) (rw length-append (omega arith))

  pub join-over : most_string < length a + length b → Fault ≡ operand (held (a ++ b))
  join-over h = held-over (a ++ b) (rw length-append h)

  pub join-in : length a + length b ≤ most_string → Text (length a + length b) ≡ operand (held (a ++ b))
  unfolding held operand
  join-in h = let e : length (a ++ b) ≡ length a + length b = length-append a b in rw (le-ltb most_string (length (a ++ b)) (rw e h)) (ap Text (sym e))

-- strings are equal where neither comes first
is-equal : (o : Order) → is_equal o ≡ true → o ≡ Equal
is-equal Less h = clash h refl
is-equal Equal h = refl
is-equal Greater h = clash h refl

equal_is : (a b : List ℕ) → equal a b ≡ is_equal (order a b)
equal_is a b =
    bool_iff (equal a b) (is_equal (order a b))
    (λ h. ap is_equal (ap (order a) (sym (equal-true a b h)) ∙ order-refl a))
    (λ h. let q : a ≡ b = order-equal a b (is-equal (order a b) h) in rw q (equal-refl b))

-- the ways out of `answer`
module _ (x : Answer) where
  pub answer-told : (t : Bool) → x ≡ Some t → Test t ≡ operand (answered x)
  unfolding operand
  answer-told t e = rw e

  pub answer-error : x ≡ None → Fault ≡ operand (answered x)
  unfolding operand
  answer-error e = rw e

-- the way out of `match_strings`
pub matches-is : (a b : List ℕ) (x : Answer) → x ≡ test_of b a → (r : Operand) → r ≡ operand (answered x) → r ≡ operand (matched a b)
unfolding matched
matches-is a b x e r f = f ∙ ap (λ (y : Answer). operand (answered y)) e

-- the ways out of `of_strings`
module _ (op : ℕ) (a b : List ℕ) where
  pub does-join : (r : Operand) → op ≡ 12 → r ≡ operand (held (a ++ b)) → r ≡ operand (textual op a b)
  unfolding textual
  does-join r h e = e ∙ simp (eq-eqb _ _ h)

  module _ (n12 : op ≡ 12 → ⊥) where
    pub does-equal : op ≡ 19 → (t : Bool) → t ≡ equal a b → Test t ≡ operand (textual op a b)
    unfolding textual operand relates_by
    does-equal h t te = rw (te, ne_eqb _ _ n12, h) (ap Test (equal_is a b))

    module _ (n19 : op ≡ 19 → ⊥) where
      pub does-differ : op ≡ 20 → (t : Bool) → t ≡ equal a b → (u : Bool) → u ≡ not t → Test u ≡ operand (textual op a b)
      unfolding textual operand relates_by
      does-differ h t te u ue = rw (ue, te, ne_eqb _ _ n12, h) (ap (λ (k : Bool). Test (not k)) (equal_is a b))

    pub does-match : (r : Operand) → op ≡ 25 → r ≡ operand (matched a b) → r ≡ operand (textual op a b)
    unfolding textual
    does-match r h e = e ∙ simp (ne_eqb _ _ n12, eq-eqb _ _ h)

    pub does-order : (op ≡ 25 → ⊥) → (o : Order) → o ≡ order a b → (k : ℕ) → k ≡ op - 19 → (t : Bool) → t ≡ relates_by k o → Test t ≡ operand (textual op a b)
    unfolding textual operand
    does-order n25 o oe k ke t te = rw (te, ke, oe) (simp (ne_eqb _ _ n12, ne_eqb _ _ n25))

-- the ways out of `texts`, `integers`, `floats` and `tests`
module _ (op : ℕ) (x y : Operand) (a b : List ℕ) (t : Bool) where
  module _ (te : t ≡ is_text x) where
    pub texts-none : t ≡ false → Fault ≡ operand (of_texts op (value_of x a) (value_of y b))
    unfolding of_texts operand
    texts-none h = rw (no_text (λ a. on_text (λ b. textual op a b) (value_of y b)) x a (sym te ∙ h))

    module _ (yes : t ≡ true) (u : Bool) (ue : u ≡ is_text y) where
      pub texts-half : u ≡ false → Fault ≡ operand (of_texts op (value_of x a) (value_of y b))
      unfolding of_texts operand
      texts-half h = rw (text-is x a (sym te ∙ yes), no_text (λ b. textual op a b) y b (sym ue ∙ h))

      pub texts-both : u ≡ true → (r : Operand) → r ≡ operand (textual op a b) → r ≡ operand (of_texts op (value_of x a) (value_of y b))
      unfolding of_texts
      texts-both h r e = rw (text-is x a (sym te ∙ yes), text-is y b (sym ue ∙ h)) e

  module _ (te : t ≡ is_number x) where
    pub integers-none : t ≡ false → Fault ≡ operand (of_integers op (value_of x a) (value_of y b))
    unfolding of_integers operand
    integers-none h = rw (no_number (λ i. on_integer (λ j. arithmetic op i j) (value_of y b)) x a (sym te ∙ h))

    module _ (yes : t ≡ true) (u : Bool) (ue : u ≡ is_number y) where
      pub integers-half : u ≡ false → Fault ≡ operand (of_integers op (value_of x a) (value_of y b))
      unfolding of_integers operand
      integers-half h = rw (number_is x a (sym te ∙ yes), no_number (λ j. arithmetic op (integer_in x) j) y b (sym ue ∙ h))

      pub integers-both : u ≡ true → (i j : Integer) → i ≡ integer_in x → j ≡ integer_in y → (r : Operand) → r ≡ operand (arithmetic op i j)
          → r ≡ operand (of_integers op (value_of x a) (value_of y b))
      unfolding of_integers
      integers-both h i j ie je r e = rw (number_is x a (sym te ∙ yes), number_is y b (sym ue ∙ h)) (e ∙ cc)

  module _ (te : t ≡ is_float x) where
    pub floats-none : t ≡ false → Fault ≡ operand (of_floats op (value_of x a) (value_of y b))
    unfolding of_floats operand
    floats-none h = rw (no-float (λ i. on_float (λ j. floating op i j) (value_of y b)) x a (sym te ∙ h))

    module _ (yes : t ≡ true) (u : Bool) (ue : u ≡ is_float y) where
      pub floats-half : u ≡ false → Fault ≡ operand (of_floats op (value_of x a) (value_of y b))
      unfolding of_floats operand
      floats-half h = rw (float_is x a (sym te ∙ yes), no-float (λ j. floating op (float_in x) j) y b (sym ue ∙ h))

      pub floats-both : u ≡ true → (i j : Single) → i ≡ float_in x → j ≡ float_in y → (r : Operand) → r ≡ operand (floating op i j)
          → r ≡ operand (of_floats op (value_of x a) (value_of y b))
      unfolding of_floats
      floats-both h i j ie je r e = rw (float_is x a (sym te ∙ yes), float_is y b (sym ue ∙ h)) (e ∙ cc)

-- the ways out of `binary`
module _ (op : ℕ) (v w : Value) (r : Operand) (t : Bool) (te : t ≡ is_textual op) where
  pub binary-texts : t ≡ true → r ≡ operand (of_texts op v w) → r ≡ operand (binary_by op v w)
  unfolding binary_by
  binary-texts h e = e ∙ simp (sym te, h)

  module _ (no : t ≡ false) where
    pub binary-integers : op ≤ 31 → r ≡ operand (of_integers op v w) → r ≡ operand (binary_by op v w)
    unfolding binary_by
    binary-integers h e = e ∙ simp (sym te, no, le-leb _ _ h)

    module _ (n : 31 < op) where
      pub binary-floats : op ≤ 40 → r ≡ operand (of_floats op v w) → r ≡ operand (binary_by op v w)
      unfolding binary_by
      binary-floats h e = e ∙ simp (sym te, no, lt-leb _ _ n, le-leb _ _ h)

      module _ (m : 40 < op) where
        pub binary-tests : op ≤ 42 → r ≡ operand (of_tests op v w) → r ≡ operand (binary_by op v w)
        unfolding binary_by
        binary-tests h e = e ∙ simp (sym te, no, lt-leb _ _ n, lt-leb _ _ m, le-leb _ _ h)

        pub binary-none : 42 < op → Fault ≡ operand (binary_by op v w)
        unfolding binary_by operand
        binary-none h = simp (sym te, no, lt-leb _ _ n, lt-leb _ _ m, lt-leb _ _ h)

-- the ways out of `rank_of_text`
module _ (vals : List (List ℕ)) (y : Operand) (b : List ℕ) (t : Bool) (te : t ≡ is_text y) where
  pub rank-text : t ≡ true → (r : ℕ) → r ≡ index_from 0 vals b → r ≡ rank_of vals (value_of y b)
  unfolding rank_of
  rank-text h r e = rw (text-is y b (sym te ∙ h)) e

  pub rank-other : t ≡ false → 0 ≡ rank_of vals (value_of y b)
  rank-other h = sym (no-rank vals y b (sym te ∙ h))

-- the ways out of `combine`
module _ (vals : List (List ℕ)) (op : ℕ) (x y : Operand) (a b : List ℕ) where
  pub combine-binary : (r : Operand) → op ≤ 42 → r ≡ operand (binary_by op (value_of x a) (value_of y b)) → r ≡ operand (combined vals op (value_of x a) (value_of y b))
  unfolding combined
  combine-binary r h e = e ∙ simp (le-leb _ _ h)

  module _ (above : 42 < op) where
    pub combine-valued : op ≡ 45 → (n : ℕ) → n ≡ rank_of vals (value_of y b) → (m : ℕ) → m ≡ pick (holds_in x) n 0
        → Rank m ≡ operand (combined vals op (value_of x a) (value_of y b))
    unfolding combined operand
    combine-valued h n ne m me = simp (lt-leb _ _ above, eq-eqb _ _ h) (ap Rank (me ∙ gate-is x a n ∙ ap (gate (value_of x a)) ne))

    module _ (n45 : op ≡ 45 → ⊥) where
      pub combine-nested : op ≡ 46 → (n : ℕ) → n ≡ rank_in y → (m : ℕ) → m ≡ pick (holds_in x) n 0 → Rank m ≡ operand (combined vals op (value_of x a) (value_of y b))
      unfolding combined operand
      combine-nested h n ne m me =
          simp (lt-leb _ _ above, ne_eqb _ _ n45, eq-eqb _ _ h) (ap Rank (me ∙ gate-is x a n ∙ ap (gate (value_of x a)) (ne ∙ rank_is y b)))

      pub combine-raise : (op ≡ 46 → ⊥) → (m n : ℕ) → m ≡ rank_in x → n ≡ rank_in y → (k : ℕ) → k ≡ max m n → Rank k ≡ operand (combined vals op (value_of x a) (value_of y b))
      unfolding combined operand
      combine-raise n46 m n me ne k ke =
          simp (lt-leb _ _ above, ne_eqb _ _ n45, ne_eqb _ _ n46) (ap Rank (ke ∙ cc (me ∙ rank_is x a, ne ∙ rank_is y b)))

-- the ways out of `convert`, `negate_operand` and `oppose`
module _ (x : Operand) (a : List ℕ) (t : Bool) where
  pub convert-text : t ≡ is_text x → t ≡ true → (i : Integer) → i ≡ decimal a → Number i.negative i.size ≡ operand (converted (value_of x a))
  unfolding converted operand
  convert-text te h i ie = rw (text-is x a (sym te ∙ h)) (ap (λ (j : Integer). Number j.negative j.size) ie)

  pub convert-none : t ≡ is_text x → t ≡ false → Fault ≡ operand (converted (value_of x a))
  unfolding converted operand
  convert-none te h = rw (no_text (λ a. integer (decimal a)) x a (sym te ∙ h))

  pub negate-number : t ≡ is_number x → t ≡ true → (i : Integer) → i ≡ integer_in x → (r : Operand) → r ≡ operand (negated i) → r ≡ operand (negative (value_of x a))
  unfolding negative
  negate-number te h i ie r e = rw (number_is x a (sym te ∙ h)) (e ∙ ap (λ (j : Integer). operand (negated j)) ie)

  pub negate-none : t ≡ is_number x → t ≡ false → Fault ≡ operand (negative (value_of x a))
  unfolding negative operand
  negate-none te h = rw (no_number negated x a (sym te ∙ h))

  pub oppose-test : t ≡ is_test x → t ≡ true → (h r : Bool) → h ≡ holds_in x → r ≡ not h → Test r ≡ operand (opposite (value_of x a))
  unfolding opposite operand
  oppose-test te y h r he e = rw (test-is x a (sym te ∙ y)) (ap Test (e ∙ ap not he))

-- the ways out of `convert_to_float` and `negate_float`
module _ (x : Operand) (a : List ℕ) (t : Bool) where
  pub to-float-text : t ≡ is_text x → t ≡ true → (y : Single) → y ≡ float_of a → Float y ≡ operand (to_float (value_of x a))
  unfolding to_float operand
  to-float-text te h y ye = rw (text-is x a (sym te ∙ h)) (ap Float ye)

  pub to-float-none : t ≡ is_text x → t ≡ false → Fault ≡ operand (to_float (value_of x a))
  unfolding to_float operand
  to-float-none te h = rw (no_text (λ a. float (float_of a)) x a (sym te ∙ h))

  pub negate-float : t ≡ is_float x → t ≡ true → (y : Single) → y ≡ float_in x → (c : Computed) → c ≡ Floats.negated y → (r : Operand) → r ≡ operand (valued c)
      → r ≡ operand (float_negative (value_of x a))
  unfolding float_negative
  negate-float te h y ye c ce r e = rw (float_is x a (sym te ∙ h)) (e ∙ ap (λ (k : Computed). operand (valued k)) (ce ∙ ap Floats.negated ye))

  pub negate-no-float : t ≡ is_float x → t ≡ false → Fault ≡ operand (float_negative (value_of x a))
  unfolding float_negative operand
  negate-no-float te h = rw (no-float (λ k. valued (Floats.negated k)) x a (sym te ∙ h))

-- the ways out of `apply`
module _ (vals : List (List ℕ)) (op : ℕ) (x : Operand) (a : List ℕ) (r : Operand) where
  pub apply-convert : op ≡ 7 → r ≡ operand (converted (value_of x a)) → r ≡ operand (applied vals op (value_of x a))
  unfolding applied
  apply-convert h e = e ∙ simp (eq-eqb _ _ h)

  module _ (n7 : op ≡ 7 → ⊥) where
    pub apply-negate : op ≡ 8 → r ≡ operand (negative (value_of x a)) → r ≡ operand (applied vals op (value_of x a))
    unfolding applied
    apply-negate h e = e ∙ simp (ne_eqb _ _ n7, eq-eqb _ _ h)

    module _ (n8 : op ≡ 8 → ⊥) where
      pub apply-oppose : op ≡ 9 → r ≡ operand (opposite (value_of x a)) → r ≡ operand (applied vals op (value_of x a))
      unfolding applied
      apply-oppose h e = e ∙ simp (ne_eqb _ _ n7, ne_eqb _ _ n8, eq-eqb _ _ h)

      module _ (n9 : op ≡ 9 → ⊥) where
        pub apply-float : op ≡ 10 → r ≡ operand (to_float (value_of x a)) → r ≡ operand (applied vals op (value_of x a))
        unfolding applied
        apply-float h e = e ∙ simp (ne_eqb _ _ n7, ne_eqb _ _ n8, ne_eqb _ _ n9, eq-eqb _ _ h)

        module _ (n10 : op ≡ 10 → ⊥) where
          pub apply-negative : op ≡ 11 → r ≡ operand (float_negative (value_of x a)) → r ≡ operand (applied vals op (value_of x a))
          unfolding applied
          apply-negative h e = e ∙ simp (ne_eqb _ _ n7, ne_eqb _ _ n8, ne_eqb _ _ n9, ne_eqb _ _ n10, eq-eqb _ _ h)

pub apply-plain : (rec values : List ℕ) (op : ℕ) (x : Operand) (a : List ℕ) → (op ≡ 7 → ⊥) → (op ≡ 8 → ⊥) → (op ≡ 9 → ⊥) → (op ≡ 10 → ⊥) → (op ≡ 11 → ⊥)
    → (n : ℕ) → n ≡ length values - 1 → (m : ℕ) → m ≡ pick (holds_in x) n 0 → Rank m ≡ operand (applied (map (counted rec) values) op (value_of x a))
unfolding applied operand top
apply-plain rec values op x a n7 n8 n9 n10 n11 n ne m me =
    let q : n ≡ length (map (counted rec) values) - 1 = ne ∙ ap (λ (k : ℕ). k - 1) (sym (length-map values (counted rec))) in
    simp (ne_eqb _ _ n7, ne_eqb _ _ n8, ne_eqb _ _ n9, ne_eqb _ _ n10, ne_eqb _ _ n11) (ap Rank (me ∙ gate-is x a n ∙ ap (gate (value_of x a)) q))

-- the ways out of the small functions
module _ (x : Operand) (t : Bool) where
  pub as-test : t ≡ is_test x → t ≡ true → x ≡ test_in x
  unfolding test_in
  as-test te h = simp (sym te, h)

  pub as_none : t ≡ is_test x → t ≡ false → Fault ≡ test_in x
  unfolding test_in
  as_none te h = simp (sym te, h)

  pub gated-in : t ≡ holds_in x → t ≡ true → (n : ℕ) → n ≡ pick (holds_in x) n 0
  gated-in te h n = simp (sym te, h)

  pub gated-out : t ≡ holds_in x → t ≡ false → (n : ℕ) → 0 ≡ pick (holds_in x) n 0
  gated-out te h n = simp (sym te, h)
