-- How much room an operator asks for besides its right operand's, by the tables of Conditions. Assumes nothing.
use Rattle.std.specs.Prelude.{◌≡◌, refl, Bool, true, ℕ, ◌+◌, ◌-◌, ◌*◌, ◌≤◌, min, eqb}
use Rattle.std.proofs.Common.{arith}
use Rattle.text.specs.Choice.{clash}
use Rattle.lexical.specs.Kind
use Rattle.lexical.specs.Theorems.Bounds.{chosen}
use Rattle.syntax.specs.Operator.{Unary, Binary, Sort, a-string, an-integer, a-float, a_test, binary_takes, unary_gives, binary_gives, strings}
use Rattle.syntax.specs.Expr.{Expr, unary, binary}
use Rattle.machine.specs.Working.Need.{span_of, span}
use Rattle.machine.specs.Theorems.Bounds.{span-least}
use Rattle.conditions.specs.Table.{PartSort, sorted, word, Infix, no-infix, between}
use Rattle.conditions.specs.Table
use Rattle.conditions.specs.Operand.{settled_tree}

-- strings below the right operand at a level: a left side of a comparison, and a left operand of "."
abbrev pub lift : ℕ → ℕ
lift level = min 2 (4 - level)

-- an operator on strings, which leaves one below its right operand
abbrev Steep : Binary → Type 0
Steep op = 1 + lift (Table.level_of op + 1) ≤ lift (Table.level_of op)

-- "Both sides of a comparison have one type": an operator on strings, on integers, on floats or on tests
data Operates : PartSort → Infix → Type 0 where
  by-none : (sort : PartSort) → Operates sort no-infix
  by-text : (sort : PartSort) (op : Binary) → Steep op → Operates sort (between op)
  by_number : (i : Infix) → Operates (sorted an-integer) i
  by-float : (i : Infix) → Operates (sorted a-float) i
  by-test : (op : Binary) → binary_takes op ≡ a_test → Operates (sorted a_test) (between op)
  by_word : (b : Bool) (op : Binary) → binary_takes op ≡ a_test → Operates (word b) (between op)

comparison-operates : (sort : PartSort) (k : ℕ) → Operates sort (Table.comparison strings k)
unfolding Table.comparison Table.level_of
comparison-operates sort k =
    chosen (Operates sort) (eqb k Kind.EQUAL) _ _ (λ e. by-text sort _ (omega arith))
    (λ e. chosen (Operates sort) (eqb k Kind.UNEQUAL) _ _ (λ e. by-text sort _ (omega arith))
    (λ e. chosen (Operates sort) (eqb k Kind.LESS) _ _ (λ e. by-text sort _ (omega arith))
    (λ e. chosen (Operates sort) (eqb k Kind.GREATER) _ _ (λ e. by-text sort _ (omega arith))
    (λ e. chosen (Operates sort) (eqb k Kind.AT_MOST) _ _ (λ e. by-text sort _ (omega arith))
    (λ e. chosen (Operates sort) (eqb k Kind.AT_LEAST) _ _ (λ e. by-text sort _ (omega arith)) (λ e. by-none sort))))))

text-operates : (sort : PartSort) (k : ℕ) → Operates sort (Table.text_operator k)
unfolding Table.text_operator Table.level_of
text-operates sort k =
    chosen (Operates sort) (eqb k Kind.DOT) _ _ (λ e. by-text sort _ (omega arith))
    (λ e. chosen (Operates sort) (eqb k Kind.MATCHES) _ _ (λ e. by-text sort _ (omega arith)) (λ e. comparison-operates sort k))

test-operates : (sort : PartSort) (k : ℕ) (other : Infix) → ((op : Binary) → binary_takes op ≡ a_test → Operates sort (between op)) → Operates sort other
    → Operates sort (Table.test_operator k other)
unfolding Table.test_operator
test-operates sort k other h o =
    chosen (Operates sort) (eqb k Kind.AND) _ _ (λ g. h _ refl) (λ g. chosen (Operates sort) (eqb k Kind.OR) _ _ (λ i. h _ refl) (λ i. o))

operates : (sort : PartSort) (k : ℕ) → Operates sort (Table.operator sort k)
unfolding Table.operator
operates (sorted a-string) k = text-operates (sorted a-string) k
operates (sorted an-integer) k = by_number _
operates (sorted a-float) k = by-float _
operates (sorted a_test) k = test-operates (sorted a_test) k no-infix by-test (by-none _)
operates (word b) k = test-operates (word b) k (Table.text_operator k) (by_word b) (text-operates (word b) k)

-- what is settled and no string has no bytes
pub data Plain : PartSort → Expr → Type 0 where
  string-plain : (e : Expr) → Plain (sorted a-string) e
  word-plain : (b : Bool) (e : Expr) → Plain (word b) e
  bytes-plain : (x : Sort) (e : Expr) → span e ≡ 0 → Plain (sorted x) e

integer-none : (e : Expr) → Plain (sorted an-integer) e → span e ≡ 0
integer-none _ (bytes-plain _ e h) = h

float-none : (e : Expr) → Plain (sorted a-float) e → span e ≡ 0
float-none _ (bytes-plain _ e h) = h

test-none : (e : Expr) → Plain (sorted a_test) e → span e ≡ 0
test-none _ (bytes-plain _ e h) = h

settled-none : (wanted x : Sort) (e : Expr) → span e ≡ 0 → span (settled_tree wanted (sorted x) e) ≡ 0
unfolding settled_tree
settled-none wanted x e h = h

word_none : (wanted : Sort) (b : Bool) (e : Expr) → wanted ≡ a_test → span (settled_tree wanted (word b) e) ≡ 0
unfolding settled_tree span
word_none wanted b e h = rw h refl

-- a left operand's bytes and the room above them
pub steep : (sort : PartSort) (k : ℕ) (e : Expr) → Plain sort e → (op : Binary) → Table.operator sort k ≡ between op
    → span (settled_tree (binary_takes op) sort e) + 4096 * lift (Table.level_of op + 1) ≤ 4096 * lift (Table.level_of op)
steep sort k e p op i = by sort p op (rw i at q)
  where
    q : Operates sort (Table.operator sort k)
    q = operates sort k

    by : (sort : PartSort) → Plain sort e → (op : Binary) → Operates sort (between op)
        → span (settled_tree (binary_takes op) sort e) + 4096 * lift (Table.level_of op + 1) ≤ 4096 * lift (Table.level_of op)
    by sort p op (by-text _ _ h) = omega (arith, h, span-least (settled_tree (binary_takes op) sort e))
    by _ p op (by_number _) = omega (arith, settled-none (binary_takes op) an-integer e (integer-none e p))
    by _ p op (by-float _) = omega (arith, settled-none (binary_takes op) a-float e (float-none e p))
    by _ p op (by-test _ h) = omega (arith, settled-none (binary_takes op) a_test e (test-none e p))
    by _ p op (by_word b _ h) = omega (arith, word_none (binary_takes op) b e h)

-- a clause's test is no string
pub settled-test : (x : PartSort) (e : Expr) → Table.fits a_test x ≡ true → Plain x e → span (settled_tree a_test x e) ≡ 0
unfolding Table.fits
settled-test (sorted a-string) e h p = clash h refl
settled-test (sorted an-integer) e h p = clash h refl
settled-test (sorted a-float) e h p = clash h refl
settled-test (sorted a_test) e h p = settled-none a_test a_test e (test-none e p)
settled-test (word b) e h p = word_none a_test b e refl

-- what an operator gives has bytes where it is a string
sort-plain : (x : Sort) (e : Expr) → span e ≡ span_of x → Plain (sorted x) e
sort-plain a-string e h = string-plain e
sort-plain an-integer e h = bytes-plain an-integer e h
sort-plain a-float e h = bytes-plain a-float e h
sort-plain a_test e h = bytes-plain a_test e h

pub unary-plain : (op : Unary) (e : Expr) → Plain (sorted (unary_gives op)) (unary op e)
unfolding span
unary-plain op e = sort-plain (unary_gives op) (unary op e) refl

pub binary-plain : (op : Binary) (e f : Expr) → Plain (sorted (binary_gives op)) (binary op e f)
unfolding span
binary-plain op e f = sort-plain (binary_gives op) (binary op e f) refl
