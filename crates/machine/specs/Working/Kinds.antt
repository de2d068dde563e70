-- Working laws: what holds of faults, integers, floats and tests holds of what operations give; no expression's value is a rank, and a float among
-- them is one that 32 bits hold. Assumes nothing.
use Rattle.std.specs.Prelude.{◌≡◌, refl, Bool, true, not, List, ◌++◌, ℕ, eqb, leb, ltb, length, Float, Some, None}
use Rattle.std.proofs.Math.Bool.{false}
use Rattle.text.specs.Choice.{pick, split}
use Rattle.text.specs.Decimal.{integer as signed, decimal as integer_of}
use Rattle.text.specs.declared.Integer.{Integer}
use Rattle.float.specs.Written.{float_of}
use Rattle.float.specs.Operations as Floats
use Rattle.float.specs.Theorems.Held.{Fitting, Held, written-fits, plus-held, minus-held, times-held, over-held, negated-held, power-held}
use Rattle.float.specs.Operations.{Computed}
use Rattle.syntax.specs.Operator.{Unary}
use Rattle.syntax.specs.Operator as Operator
use Rattle.syntax.specs.Operation.{binary_number}
use Rattle.syntax.specs.Expr.{Expr, literal, name, number, truth, decimal, unary, binary}
use Rattle.expression.specs.Value.{Value, text, integer, test, rank, float, fault, operand, on_text, on_integer, on_test, on_float}
use Rattle.expression.specs.Operands.{kind_of}
use Rattle.expression.specs.Integers.{ranged, apart, plus, minus, times, over, remainder, power, negated}
use Rattle.expression.specs.Names.{Environment, lookup}
use Rattle.expression.specs.Operations.{held, valued, converted, negative, opposite, to_float, float_negative, unary_of}
use Rattle.expression.specs.Theorems.Matched.{matched-cases}
use Rattle.expression.specs.Working.Numbered.{arithmetic, textual, logical, floating, of_texts, of_integers, of_floats, of_tests, is_textual, binary_by}
use Rattle.expression.specs.Conditions.{evaluate}
use Rattle.expression.specs.Theorems.Numbered.{binary-number}
use Rattle.limits.specs.Limits.{most_string}

module _ (P : Value → Type 0) where
  pub of-pick : (t : Bool) {a b : Value} → P a → P b → P (pick t a b)
  of-pick true p q = p
  of-pick false p q = q

  module _ (faulty : P fault) where
    pub of-text : (f : List ℕ → Value) (v : Value) → ((b : List ℕ) → P (f b)) → P (on_text f v)
    of-text f (text b) h = h b
    of-text f (integer i) h = faulty
    of-text f (test t) h = faulty
    of-text f (rank n) h = faulty
    of-text f (float x) h = faulty
    of-text f fault h = faulty

    of-integer : (f : Integer → Value) (v : Value) → ((i : Integer) → P (f i)) → P (on_integer f v)
    of-integer f (text b) h = faulty
    of-integer f (integer i) h = h i
    of-integer f (test t) h = faulty
    of-integer f (rank n) h = faulty
    of-integer f (float x) h = faulty
    of-integer f fault h = faulty

    of_test : (f : Bool → Value) (v : Value) → ((t : Bool) → P (f t)) → P (on_test f v)
    of_test f (text b) h = faulty
    of_test f (integer i) h = faulty
    of_test f (test t) h = h t
    of_test f (rank n) h = faulty
    of_test f (float x) h = faulty
    of_test f fault h = faulty

    pub of-float : (f : Float → Value) (v : Value) → ((x : Float) → P (f x)) → P (on_float f v)
    of-float f (text b) h = faulty
    of-float f (integer i) h = faulty
    of-float f (test t) h = faulty
    of-float f (rank n) h = faulty
    of-float f (float x) h = h x
    of-float f fault h = faulty

    -- of floats that 32 bits hold
    module _ (told : (t : Bool) → P (test t)) (single : (x : Float) → Fitting x → P (float x)) where
      pub of-computed : (c : Computed) → Held c → P (valued c)
      of-computed (Some x) h = single x h
      of-computed None h = faulty

      of-floating : (op : ℕ) (a b : Float) → P (floating op a b)
      unfolding floating
      of-floating op a b =
          of-pick (eqb op 32) (of-computed (Floats.power a b) (power-held a b))
          (of-pick (eqb op 33) (of-computed (Floats.times a b) (times-held a b))
          (of-pick (eqb op 34) (of-computed (Floats.over a b) (over-held a b))
          (of-pick (eqb op 35) (of-computed (Floats.plus a b) (plus-held a b))
          (of-pick (eqb op 36) (of-computed (Floats.minus a b) (minus-held a b)) (told _)))))

      pub of-floats : (op : ℕ) (v w : Value) → P (of_floats op v w)
      unfolding of_floats
      of-floats op v w = of-float (λ a. on_float (λ b. floating op a b) w) v (λ a. of-float (λ b. floating op a b) w (λ b. of-floating op a b))

      pub of-to-float : (v : Value) → P (to_float v)
      unfolding to_float
      of-to-float v = of-text (λ a. float (float_of a)) v (λ b. single (float_of b) (written-fits b))

    -- of any float
    module _ (single : (x : Float) → P (float x)) where
      any-computed : (c : Computed) → P (valued c)
      any-computed (Some x) = single x
      any-computed None = faulty

      pub of-float-negative : (v : Value) → P (float_negative v)
      unfolding float_negative
      of-float-negative v = of-float (λ a. valued (Floats.negated a)) v (λ x. any-computed (Floats.negated x))

    module _ (whole : (i : Integer) → P (integer i)) (told : (t : Bool) → P (test t)) where
      pub of-ranged : (n : Bool) (m : ℕ) → P (ranged n m)
      unfolding ranged
      of-ranged n m = of-pick (eqb m 0) (whole (signed false 0)) (of-pick (ltb (pick n 2147483648 2147483647) m) faulty (whole (signed n m)))

      of-apart : (n : Bool) (x y : ℕ) → P (apart n x y)
      unfolding apart
      of-apart n x y = of-pick (leb y x) (of-ranged _ _) (of-ranged _ _)

      of-plus : (a b : Integer) → P (plus a b)
      unfolding plus
      of-plus a b = of-pick a.negative (of-pick b.negative (of-ranged _ _) (of-apart _ _ _)) (of-pick b.negative (of-apart _ _ _) (of-ranged _ _))

      of-arithmetic : (op : ℕ) (a b : Integer) → P (arithmetic op a b)
      unfolding arithmetic power times over remainder minus
      of-arithmetic op a b =
          of-pick (eqb op 13) (of-pick (eqb b.size 0) (whole (signed false 1)) (of-pick b.negative faulty (of-ranged _ _)))
          (of-pick (eqb op 14) (of-ranged _ _)
          (of-pick (eqb op 15) (of-pick (eqb b.size 0) faulty (of-ranged _ _))
          (of-pick (eqb op 16) (of-pick (eqb b.size 0) faulty (of-ranged _ _))
          (of-pick (eqb op 17) (of-plus a b) (of-pick (eqb op 18) (of-plus a _) (told _))))))

      pub of-integers : (op : ℕ) (v w : Value) → P (of_integers op v w)
      unfolding of_integers
      of-integers op v w = of-integer (λ a. on_integer (λ b. arithmetic op a b) w) v (λ a. of-integer (λ b. arithmetic op a b) w (λ b. of-arithmetic op a b))

      pub of-tests : (op : ℕ) (v w : Value) → P (of_tests op v w)
      unfolding of_tests logical
      of-tests op v w =
          of_test (λ t. logical op t w) v (λ t. of-pick (eqb op 41) (of-pick t (of_test test w told) (told false)) (of-pick t (told true) (of_test test w told)))

      pub of-converted : (v : Value) → P (converted v)
      unfolding converted
      of-converted v = of-text (λ a. integer (integer_of a)) v (λ b. whole (integer_of b))

      pub of_negative : (v : Value) → P (negative v)
      unfolding negative negated
      of_negative v = of-integer negated v (λ i. of-ranged _ _)

      pub of-opposite : (v : Value) → P (opposite v)
      unfolding opposite
      of-opposite v = of_test (λ t. test (not t)) v (λ t. told (not t))

-- a value that is no rank; 5 is a rank's kind
record Unranked (v : Value) : Type 0 where
  pub other : eqb (kind_of (operand v)) 5 ≡ false

text-unranked : (b : List ℕ) → Unranked (text b)
unfolding operand kind_of
text-unranked b = record { other = refl }

integer-unranked : (i : Integer) → Unranked (integer i)
unfolding operand kind_of
integer-unranked i = record { other = split i.negative (λ f. rw f) (λ f. rw f) }

test-unranked : (t : Bool) → Unranked (test t)
unfolding operand kind_of
test-unranked true = record { other = refl }
test-unranked false = record { other = refl }

float-unranked : (x : Float) → Unranked (float x)
unfolding operand kind_of
float-unranked x = record { other = refl }

fault-unranked : Unranked fault
unfolding operand kind_of
fault-unranked = record { other = refl }

held-unranked : (b : List ℕ) → Unranked (held b)
unfolding held
held-unranked b = of-pick Unranked (ltb most_string (length b)) fault-unranked (text-unranked b)

unary-unranked : (look : List ℕ → List ℕ) (op : Unary) (v : Value) → Unranked (unary_of look op v)
unfolding unary_of
unary-unranked look Operator.lookup v = of-text Unranked fault-unranked (λ a. held (look a)) v (λ b. held-unranked (look b))
unary-unranked look Operator.convert v = of-converted Unranked fault-unranked integer-unranked test-unranked v
unary-unranked look Operator.negate v = of_negative Unranked fault-unranked integer-unranked test-unranked v
unary-unranked look Operator.opposite v = of-opposite Unranked fault-unranked integer-unranked test-unranked v
unary-unranked look Operator.to-float v = of-to-float Unranked fault-unranked test-unranked (λ x h. float-unranked x) v
unary-unranked look Operator.float-negate v = of-float-negative Unranked fault-unranked float-unranked v

texts-unranked : (op : ℕ) (v w : Value) → Unranked (of_texts op v w)
unfolding of_texts textual
texts-unranked op v w =
    of-text Unranked fault-unranked (λ a. on_text (λ b. textual op a b) w) v
    (λ a. of-text Unranked fault-unranked (λ b. textual op a b) w (λ b. of-pick Unranked (eqb op 12) (held-unranked (a ++ b))
    (of-pick Unranked (eqb op 25) (matched-cases Unranked fault-unranked test-unranked a b) (test-unranked _))))

binary-unranked : (op : ℕ) (v w : Value) → Unranked (binary_by op v w)
unfolding binary_by
binary-unranked op v w =
    of-pick Unranked (is_textual op) (texts-unranked op v w)
    (of-pick Unranked (leb op 31) (of-integers Unranked fault-unranked integer-unranked test-unranked op v w)
    (of-pick Unranked (leb op 40) (of-floats Unranked fault-unranked test-unranked (λ x h. float-unranked x) op v w)
    (of-pick Unranked (leb op 42) (of-tests Unranked fault-unranked integer-unranked test-unranked op v w) fault-unranked)))

value-unranked : (env : Environment) (e : Expr) → Unranked (evaluate env e)
unfolding evaluate
value-unranked env (literal b) = held-unranked b
value-unranked env (name n) = held-unranked (lookup env n)
value-unranked env (number n) = of-ranged Unranked fault-unranked integer-unranked test-unranked false n
value-unranked env (truth t) = test-unranked t
value-unranked env (decimal b) = float-unranked (float_of b)
value-unranked env (unary op e) = unary-unranked (lookup env) op (evaluate env e)
value-unranked env (binary op e f) =
    rw (← binary-number op (evaluate env e) (evaluate env f)) (binary-unranked (binary_number op) (evaluate env e) (evaluate env f))

-- an expression's value is no rank
pub unranked : (env : Environment) (e : Expr) → eqb (kind_of (operand (evaluate env e))) 5 ≡ false
unranked env e = (value-unranked env e).other

-- a value that its operand's two numbers say: any but a float that no 32 bits hold
abbrev pub Said : Value → Type 0
Said (text b) = Unit
Said (integer i) = Unit
Said (test t) = Unit
Said (rank n) = Unit
Said (float x) = Fitting x
Said fault = Unit

held-said : (b : List ℕ) → Said (held b)
unfolding held
held-said b = of-pick Said (ltb most_string (length b)) {a = fault} {b = text b} tt tt

negative-said : (v : Value) → Said v → Said (float_negative v)
unfolding float_negative
negative-said (text b) h = tt
negative-said (integer i) h = tt
negative-said (test t) h = tt
negative-said (rank n) h = tt
negative-said (float x) h = of-computed Said tt (λ t. tt) (λ y k. k) (Floats.negated x) (negated-held x h)
negative-said fault h = tt

unary-said : (look : List ℕ → List ℕ) (op : Unary) (v : Value) → Said v → Said (unary_of look op v)
unfolding unary_of
unary-said look Operator.lookup v h = of-text Said tt (λ a. held (look a)) v (λ b. held-said (look b))
unary-said look Operator.convert v h = of-converted Said tt (λ i. tt) (λ t. tt) v
unary-said look Operator.negate v h = of_negative Said tt (λ i. tt) (λ t. tt) v
unary-said look Operator.opposite v h = of-opposite Said tt (λ i. tt) (λ t. tt) v
unary-said look Operator.to-float v h = of-to-float Said tt (λ t. tt) (λ x k. k) v
unary-said look Operator.float-negate v h = negative-said v h

texts-said : (op : ℕ) (v w : Value) → Said (of_texts op v w)
unfolding of_texts textual
texts-said op v w =
    of-text Said tt (λ a. on_text (λ b. textual op a b) w) v
    (λ a. of-text Said tt (λ b. textual op a b) w (λ b. of-pick Said (eqb op 12) {a = held (a ++ b)} (held-said (a ++ b))
    (of-pick Said (eqb op 25) {b = test _} (matched-cases Said tt (λ t. tt) a b) tt)))

binary-said : (op : ℕ) (v w : Value) → Said (binary_by op v w)
unfolding binary_by
binary-said op v w =
    of-pick Said (is_textual op) (texts-said op v w)
    (of-pick Said (leb op 31) (of-integers Said tt (λ i. tt) (λ t. tt) op v w)
    (of-pick Said (leb op 40) (of-floats Said tt (λ t. tt) (λ x k. k) op v w)
    (of-pick Said (leb op 42) {b = fault} (of-tests Said tt (λ i. tt) (λ t. tt) op v w) tt)))

-- an expression's value is one
pub value-said : (env : Environment) (e : Expr) → Said (evaluate env e)
unfolding evaluate
value-said env (literal b) = held-said b
value-said env (name n) = held-said (lookup env n)
value-said env (number n) = of-ranged Said tt (λ i. tt) (λ t. tt) false n
value-said env (truth t) = tt
value-said env (decimal b) = written-fits b
value-said env (unary op e) = unary-said (lookup env) op (evaluate env e) (value-said env e)
value-said env (binary op e f) = rw (← binary-number op (evaluate env e) (evaluate env f)) (binary-said (binary_number op) (evaluate env e) (evaluate env f))
