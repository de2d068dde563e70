-- Working laws: how many bytes the values of operations have. Assumes nothing.
use Rattle.std.specs.Prelude.{◌≡◌, refl, Bool, true, false, List, [], ◌++◌, ℕ, ◌≤◌, eqb, leb, ltb, length, take, Float}
use Rattle.std.proofs.Common.{arith, ltb-false, ne_eqb}
use Rattle.std.proofs.Math.Seq.{take-length}
use Rattle.text.specs.Choice.{pick, split}
use Rattle.text.specs.declared.Integer.{Integer}
use Rattle.syntax.specs.Operator.{Unary, Binary, unary_gives, binary_gives}
use Rattle.syntax.specs.Operator as Operator
use Rattle.syntax.specs.Operation.{comparison_number, order_number, binary_number}
use Rattle.syntax.specs.Theorems.Numbers.{comparison-between, order-between}
use Rattle.syntax.specs.Expr.{Expr, literal, name, number, truth, decimal, unary, binary}
use Rattle.expression.specs.Value.{Value, text, integer, test, rank, float, fault, bytes_of, on_text}
use Rattle.expression.specs.Integers.{ranged}
use Rattle.expression.specs.Names.{Environment, lookup}
use Rattle.expression.specs.Operations.{held, converted, negative, opposite, to_float, float_negative, unary_of, matched}
use Rattle.expression.specs.Theorems.Matched.{matched-cases}
use Rattle.expression.specs.Working.Numbered.{textual, of_texts, of_integers, of_floats, of_tests, is_textual, binary_by}
use Rattle.expression.specs.Conditions.{evaluate}
use Rattle.expression.specs.Working.Clauses.{applied, combined}
use Rattle.expression.specs.Theorems.Numbered.{binary-number}
use Rattle.machine.specs.Working.Need.{span_of, span}
use Rattle.machine.specs.Working.Kinds.{of-pick, of-text, of-ranged, of-integers, of-tests, of-converted, of_negative, of-opposite, of-floats, of-to-float, of-float-negative}
use Rattle.limits.specs.Limits.{most_string}

-- a value without bytes
pub record Plain (v : Value) : Type 0 where
  pub none : bytes_of v ≡ []

plain-integer : (i : Integer) → Plain (integer i)
unfolding bytes_of
plain-integer i = record { none = refl }

plain-test : (t : Bool) → Plain (test t)
unfolding bytes_of
plain-test t = record { none = refl }

pub plain-rank : (n : ℕ) → Plain (rank n)
unfolding bytes_of
plain-rank n = record { none = refl }

plain_float : (x : Float) → Plain (float x)
unfolding bytes_of
plain_float x = record { none = refl }

plain-fault : Plain fault
unfolding bytes_of
plain-fault = record { none = refl }

plain-pick : (t : Bool) {a b : Value} → Plain a → Plain b → Plain (pick t a b)
plain-pick t p q = of-pick Plain t p q

plain-on-text : (f : List ℕ → Value) (v : Value) → ((b : List ℕ) → Plain (f b)) → Plain (on_text f v)
plain-on-text = of-text Plain plain-fault

pub plain-ranged : (n : Bool) (m : ℕ) → Plain (ranged n m)
plain-ranged = of-ranged Plain plain-fault plain-integer plain-test

plain-integers : (op : ℕ) (v w : Value) → Plain (of_integers op v w)
plain-integers = of-integers Plain plain-fault plain-integer plain-test

plain-tests : (op : ℕ) (v w : Value) → Plain (of_tests op v w)
plain-tests = of-tests Plain plain-fault plain-integer plain-test

plain-floats : (op : ℕ) (v w : Value) → Plain (of_floats op v w)
plain-floats = of-floats Plain plain-fault plain-test (λ x h. plain_float x)

plain-to-float : (v : Value) → Plain (to_float v)
plain-to-float = of-to-float Plain plain-fault plain-test (λ x h. plain_float x)

plain-float-negative : (v : Value) → Plain (float_negative v)
plain-float-negative = of-float-negative Plain plain-fault plain_float

plain-matched : (a b : List ℕ) → Plain (matched a b)
plain-matched = matched-cases Plain plain-fault plain-test

plain-converted : (v : Value) → Plain (converted v)
plain-converted = of-converted Plain plain-fault plain-integer plain-test

plain-negative : (v : Value) → Plain (negative v)
plain-negative = of_negative Plain plain-fault plain-integer plain-test

plain-opposite : (v : Value) → Plain (opposite v)
plain-opposite = of-opposite Plain plain-fault plain-integer plain-test

-- one operand leaves no string
pub plain-applied : (vals : List (List ℕ)) (op : ℕ) (v : Value) → Plain (applied vals op v)
unfolding applied
plain-applied vals op v =
    plain-pick (eqb op 7) (plain-converted v) (plain-pick (eqb op 8) (plain-negative v) (plain-pick (eqb op 9) (plain-opposite v)
    (plain-pick (eqb op 10) (plain-to-float v) (plain-pick (eqb op 11) (plain-float-negative v) (plain-rank _)))))

-- a value whose bytes are a front of the list
pub record Front (v : Value) (l : List ℕ) : Type 0 where
  pub fits : length (bytes_of v) ≤ length l
  pub is : take (length (bytes_of v)) l ≡ bytes_of v

front-plain : (v : Value) (l : List ℕ) → Plain v → Front v l
front-plain v l p = record { fits = rw p.none (omega arith); is = rw p.none }

front-all : (l : List ℕ) → Front (text l) l
unfolding bytes_of
front-all l = record { fits = omega arith; is = take-length l }

front-pick : (t : Bool) {a b : Value} {l : List ℕ} → Front a l → Front b l → Front (pick t a b) l
front-pick true p q = p
front-pick false p q = q

front-held : (l : List ℕ) → Front (held l) l
unfolding held
front-held l = front-pick (ltb most_string (length l)) {a = fault} {b = text l} (front-plain fault l plain-fault) (front-all l)

front-textual : (op : ℕ) (a b : List ℕ) → Front (textual op a b) (a ++ b)
unfolding textual
front-textual op a b =
    front-pick (eqb op 12) {a = held (a ++ b)} (front-held (a ++ b))
    (front-pick (eqb op 25) {a = matched a b} (front-plain _ _ (plain-matched a b)) (front-plain _ _ (plain-test _)))

front-texts : (op : ℕ) (v w : Value) → Front (of_texts op v w) (bytes_of v ++ bytes_of w)
unfolding of_texts bytes_of
front-texts op (text a) (text b) = front-textual op a b
front-texts op (text a) (integer i) = front-plain fault _ plain-fault
front-texts op (text a) (test t) = front-plain fault _ plain-fault
front-texts op (text a) (rank n) = front-plain fault _ plain-fault
front-texts op (text a) (float x) = front-plain fault _ plain-fault
front-texts op (text a) fault = front-plain fault _ plain-fault
front-texts op (integer i) w = front-plain fault _ plain-fault
front-texts op (test t) w = front-plain fault _ plain-fault
front-texts op (rank n) w = front-plain fault _ plain-fault
front-texts op (float x) w = front-plain fault _ plain-fault
front-texts op fault w = front-plain fault _ plain-fault

-- a string that two operands leave is made of theirs
pub front-combined : (vals : List (List ℕ)) (op : ℕ) (v w : Value) → Front (combined vals op v w) (bytes_of v ++ bytes_of w)
unfolding combined binary_by
front-combined vals op v w =
    front-pick (leb op 42) {a = binary_by op v w}
    (front-pick (is_textual op) {a = of_texts op v w} (front-texts op v w) (front-plain _ _ (plain-pick (leb op 31) (plain-integers op v w) (plain-pick (leb op 40) (plain-floats op v w) (plain-pick (leb op 42) (plain-tests op v w) plain-fault)))))
    (front-plain _ _ (plain-pick (eqb op 45) (plain-rank _) (plain-pick (eqb op 46) (plain-rank _) (plain-rank _))))

-- a value of at most 4,096 bytes
record Short (v : Value) : Type 0 where
  pub most : length (bytes_of v) ≤ most_string

short-plain : (v : Value) → Plain v → Short v
short-plain v p = record { most = rw p.none (omega arith) }

short-held : (b : List ℕ) → Short (held b)
unfolding held bytes_of
short-held b = record { most = split (ltb most_string (length b)) (λ f. rw f (omega arith)) (λ f. rw f (ltb-false _ _ f)) }

short-pick : (t : Bool) {a b : Value} → Short a → Short b → Short (pick t a b)
short-pick true p q = p
short-pick false p q = q

short-on-text : (f : List ℕ → Value) (v : Value) → ((b : List ℕ) → Short (f b)) → Short (on_text f v)
short-on-text = of-text Short (short-plain fault plain-fault)

short-texts : (op : ℕ) (v w : Value) → Short (of_texts op v w)
unfolding of_texts textual
short-texts op v w =
    short-on-text (λ a. on_text (λ b. textual op a b) w) v
    (λ a. short-on-text (λ b. textual op a b) w (λ b. short-pick (eqb op 12) {a = held (a ++ b)} (short-held (a ++ b))
    (short-pick (eqb op 25) {a = matched a b} (short-plain (matched a b) (plain-matched a b)) (short-plain (test _) (plain-test _)))))

short-binary : (op : ℕ) (v w : Value) → Short (binary_by op v w)
unfolding binary_by
short-binary op v w =
    short-pick (is_textual op) {a = of_texts op v w} (short-texts op v w)
    (short-plain _ (plain-pick (leb op 31) (plain-integers op v w) (plain-pick (leb op 40) (plain-floats op v w) (plain-pick (leb op 42) (plain-tests op v w) plain-fault))))

plain-texts : (op : ℕ) (v w : Value) → eqb op 12 ≡ false → Plain (of_texts op v w)
unfolding of_texts textual
plain-texts op v w h =
    plain-on-text (λ a. on_text (λ b. textual op a b) w) v (λ a. plain-on-text (λ b. textual op a b) w (λ b. rw h (plain-pick (eqb op 25) (plain-matched a b) (plain-test _))))

plain-binary : (op : ℕ) (v w : Value) → eqb op 12 ≡ false → Plain (binary_by op v w)
unfolding binary_by
plain-binary op v w h =
    plain-pick (is_textual op) (plain-texts op v w h) (plain-pick (leb op 31) (plain-integers op v w) (plain-pick (leb op 40) (plain-floats op v w) (plain-pick (leb op 42) (plain-tests op v w) plain-fault)))

-- a value has at most the span of what its operator gives
span-unary : (look : List ℕ → List ℕ) (op : Unary) (v : Value) → length (bytes_of (unary_of look op v)) ≤ span_of (unary_gives op)
unfolding unary_of
span-unary look Operator.lookup v = (short-on-text (λ a. held (look a)) v (λ b. short-held (look b))).most
span-unary look Operator.convert v = rw (plain-converted v).none (omega arith)
span-unary look Operator.negate v = rw (plain-negative v).none (omega arith)
span-unary look Operator.opposite v = rw (plain-opposite v).none (omega arith)
span-unary look Operator.to-float v = rw (plain-to-float v).none (omega arith)
span-unary look Operator.float-negate v = rw (plain-float-negative v).none (omega arith)

span-binary : (op : Binary) (v w : Value) → length (bytes_of (binary_by (binary_number op) v w)) ≤ span_of (binary_gives op)
span-binary Operator.join v w = (short-binary 12 v w).most
span-binary Operator.power v w = rw (plain-binary 13 v w refl).none (omega arith)
span-binary Operator.times v w = rw (plain-binary 14 v w refl).none (omega arith)
span-binary Operator.over v w = rw (plain-binary 15 v w refl).none (omega arith)
span-binary Operator.remainder v w = rw (plain-binary 16 v w refl).none (omega arith)
span-binary Operator.plus v w = rw (plain-binary 17 v w refl).none (omega arith)
span-binary Operator.minus v w = rw (plain-binary 18 v w refl).none (omega arith)
span-binary (Operator.comparison side r) v w = rw (plain-binary (comparison_number side r) v w (ne_eqb (comparison_number side r) 12 (λ z. omega (arith, z, (comparison-between side r).0)))).none (omega arith)
span-binary Operator.matches v w = rw (plain-binary 25 v w refl).none (omega arith)
span-binary Operator.float-power v w = rw (plain-binary 32 v w refl).none (omega arith)
span-binary Operator.float-times v w = rw (plain-binary 33 v w refl).none (omega arith)
span-binary Operator.float-over v w = rw (plain-binary 34 v w refl).none (omega arith)
span-binary Operator.float-plus v w = rw (plain-binary 35 v w refl).none (omega arith)
span-binary Operator.float-minus v w = rw (plain-binary 36 v w refl).none (omega arith)
span-binary (Operator.float-order o) v w = rw (plain-binary (order_number o) v w (ne_eqb (order_number o) 12 (λ z. omega (arith, z, (order-between o).0)))).none (omega arith)
span-binary Operator.both v w = rw (plain-binary 41 v w refl).none (omega arith)
span-binary Operator.either v w = rw (plain-binary 42 v w refl).none (omega arith)

-- an expression's value has at most its span
pub within-span : (env : Environment) (e : Expr) → length (bytes_of (evaluate env e)) ≤ span e
unfolding evaluate span
within-span env (literal b) = (short-held b).most
within-span env (name n) = (short-held (lookup env n)).most
within-span env (number n) = rw (plain-ranged false n).none (omega arith)
within-span env (truth t) = rw (plain-test t).none (omega arith)
within-span env (decimal b) = rw (plain_float _).none (omega arith)
within-span env (unary op e) = span-unary (lookup env) op (evaluate env e)
within-span env (binary op e f) = rw (← binary-number op (evaluate env e) (evaluate env f)) (span-binary op (evaluate env e) (evaluate env f))
