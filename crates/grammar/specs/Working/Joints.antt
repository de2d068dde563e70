-- The tables of crate conditions, as cases: what an operator joins, what fits where, and what stands before an operand. Assumes nothing.
use Rattle.std.specs.Prelude.{◌≡◌, Bool, false, List, ℕ, ◌≤◌, ◌<◌, eqb}
use Rattle.std.proofs.Math.Path.{refl, ap}
use Rattle.std.proofs.Common.{sym, ◌∙◌, arith, eqb-true, leb-false}
use Rattle.std.proofs.Math.Bool.{true}
use Rattle.std.proofs.lemmas.Bool.{lt-leb}
use Rattle.text.specs.Choice.{pick, split}
use Rattle.lexical.specs.Kind
use Rattle.lexical.specs.Theorems.Bounds.{chosen}
use Rattle.lexical.specs.Word.{word_true, word_false}
use Rattle.lexical.specs.declared.token.Token.{Token}
use Rattle.syntax.specs.Operator.{Binary, Side, Relation, Ordering, Sort, a-string, an-integer, a-float, a_test, binary_takes, binary_gives}
use Rattle.syntax.specs.Operator as Operator
use Rattle.conditions.specs.Table.{PartSort, sorted, word, Infix, no-infix, between}
use Rattle.conditions.specs.Table
use Rattle.conditions.specs.Working.Reach.{level-most}
use Rattle.conditions.proofs.Working.Reach.{operator-token}
use Rattle.grammar.specs.Conditions.{TRUTH}
use Rattle.grammar.specs.Spelled.{spelled, kind_in}
use Rattle.grammar.specs.Trees.{ProductOp, times-op, divide-op, remainder-op, SumOp, plus-op, minus-op, FloatProductOp, float-times-op, float-divide-op, FloatSumOp, float-plus-op, float-minus-op, OrderOp, float-less-op, float-greater-op, float-at-most-op, float-at-least-op, CompareOp, equal-op, unequal-op, less-op, greater-op, at-most-op, at-least-op}

-- what was read is of the sort, or a bare word that can become it
pub data Fits : Sort → PartSort → Type 0 where
  fit-test : Fits a_test (sorted a_test)
  fit-text : Fits a-string (sorted a-string)
  fit-number : Fits an-integer (sorted an-integer)
  fit-float : Fits a-float (sorted a-float)
  fit_word : (b : Bool) → Fits a_test (word b)
  fit-name : (b : Bool) → Fits a-string (word b)

-- it is no test
pub data Unfit : PartSort → Type 0 where
  unfit-text : Unfit (sorted a-string)
  unfit-number : Unfit (sorted an-integer)
  unfit-float : Unfit (sorted a-float)

pub data TestFit (sort : PartSort) : Bool → Type 0 where
  test_fits : Fits a_test sort → TestFit sort true
  test-unfit : Unfit sort → TestFit sort false

pub test-fit : (sort : PartSort) → TestFit sort (Table.fits a_test sort)
unfolding Table.fits
test-fit (sorted a_test) = test_fits fit-test
test-fit (sorted a-string) = test-unfit unfit-text
test-fit (sorted an-integer) = test-unfit unfit-number
test-fit (sorted a-float) = test-unfit unfit-float
test-fit (word b) = test_fits (fit_word b)

-- the mark k writes the operator op of level l, which takes two of sort o and gives one of sort r
pub data Joint : ℕ → Binary → ℕ → Sort → Sort → Type 0 where
  j-power : Joint Kind.POWER Operator.power 5 an-integer an-integer
  j-product : (k : ℕ) (op : Binary) → ProductOp k op → Joint k op 4 an-integer an-integer
  j-sum : (k : ℕ) (op : Binary) → SumOp k op → Joint k op 3 an-integer an-integer
  j-float-power : Joint Kind.POWER Operator.float-power 5 a-float a-float
  j-float-product : (k : ℕ) (op : Binary) → FloatProductOp k op → Joint k op 4 a-float a-float
  j-float-sum : (k : ℕ) (op : Binary) → FloatSumOp k op → Joint k op 3 a-float a-float
  j-orders : (k : ℕ) (x : Ordering) → OrderOp k x → Joint k (Operator.float-order x) 2 a-float a_test
  j-join : Joint Kind.DOT Operator.join 3 a-string a-string
  j-numbers : (k : ℕ) (x : Relation) → CompareOp k x → Joint k (Operator.comparison Operator.integers x) 2 an-integer a_test
  j-texts : (k : ℕ) (x : Relation) → CompareOp k x → Joint k (Operator.comparison Operator.strings x) 2 a-string a_test
  j-match : Joint Kind.MATCHES Operator.matches 2 a-string a_test
  j-and : Joint Kind.AND Operator.both 1 a_test a_test
  j-or : Joint Kind.OR Operator.either 0 a_test a_test

-- what the tables say of it
pub data Tabled (op : Binary) (l : ℕ) (o r : Sort) : Type 0 where
  tabled : Table.level_of op ≡ l → binary_takes op ≡ o → binary_gives op ≡ r → Tabled op l o r

pub joint-tabled : (k : ℕ) (op : Binary) (l : ℕ) (o r : Sort) → Joint k op l o r → Tabled op l o r
unfolding Table.level_of
joint-tabled _ _ _ _ _ j-power = tabled refl refl refl
joint-tabled _ _ _ _ _ (j-product _ _ times-op) = tabled refl refl refl
joint-tabled _ _ _ _ _ (j-product _ _ divide-op) = tabled refl refl refl
joint-tabled _ _ _ _ _ (j-product _ _ remainder-op) = tabled refl refl refl
joint-tabled _ _ _ _ _ (j-sum _ _ plus-op) = tabled refl refl refl
joint-tabled _ _ _ _ _ (j-sum _ _ minus-op) = tabled refl refl refl
joint-tabled _ _ _ _ _ j-float-power = tabled refl refl refl
joint-tabled _ _ _ _ _ (j-float-product _ _ float-times-op) = tabled refl refl refl
joint-tabled _ _ _ _ _ (j-float-product _ _ float-divide-op) = tabled refl refl refl
joint-tabled _ _ _ _ _ (j-float-sum _ _ float-plus-op) = tabled refl refl refl
joint-tabled _ _ _ _ _ (j-float-sum _ _ float-minus-op) = tabled refl refl refl
joint-tabled _ _ _ _ _ (j-orders _ _ _) = tabled refl refl refl
joint-tabled _ _ _ _ _ j-join = tabled refl refl refl
joint-tabled _ _ _ _ _ (j-numbers _ _ _) = tabled refl refl refl
joint-tabled _ _ _ _ _ (j-texts _ _ _) = tabled refl refl refl
joint-tabled _ _ _ _ _ j-match = tabled refl refl refl
joint-tabled _ _ _ _ _ j-and = tabled refl refl refl
joint-tabled _ _ _ _ _ j-or = tabled refl refl refl

compare-mark : (k : ℕ) (x : Relation) → CompareOp k x → eqb k Kind.NAME ≡ false
compare-mark _ _ equal-op = refl
compare-mark _ _ unequal-op = refl
compare-mark _ _ less-op = refl
compare-mark _ _ greater-op = refl
compare-mark _ _ at-most-op = refl
compare-mark _ _ at-least-op = refl

order-mark : (k : ℕ) (x : Ordering) → OrderOp k x → eqb k Kind.NAME ≡ false
order-mark _ _ float-less-op = refl
order-mark _ _ float-greater-op = refl
order-mark _ _ float-at-most-op = refl
order-mark _ _ float-at-least-op = refl

pub joint-mark : (k : ℕ) (op : Binary) (l : ℕ) (o r : Sort) → Joint k op l o r → eqb k Kind.NAME ≡ false
joint-mark _ _ _ _ _ j-power = refl
joint-mark _ _ _ _ _ (j-product _ _ times-op) = refl
joint-mark _ _ _ _ _ (j-product _ _ divide-op) = refl
joint-mark _ _ _ _ _ (j-product _ _ remainder-op) = refl
joint-mark _ _ _ _ _ (j-sum _ _ plus-op) = refl
joint-mark _ _ _ _ _ (j-sum _ _ minus-op) = refl
joint-mark _ _ _ _ _ j-float-power = refl
joint-mark _ _ _ _ _ (j-float-product _ _ float-times-op) = refl
joint-mark _ _ _ _ _ (j-float-product _ _ float-divide-op) = refl
joint-mark _ _ _ _ _ (j-float-sum _ _ float-plus-op) = refl
joint-mark _ _ _ _ _ (j-float-sum _ _ float-minus-op) = refl
joint-mark _ _ _ _ _ (j-orders k x c) = order-mark k x c
joint-mark _ _ _ _ _ j-join = refl
joint-mark _ _ _ _ _ (j-numbers k x c) = compare-mark k x c
joint-mark _ _ _ _ _ (j-texts k x c) = compare-mark k x c
joint-mark _ _ _ _ _ j-match = refl
joint-mark _ _ _ _ _ j-and = refl
joint-mark _ _ _ _ _ j-or = refl

-- the operator that a kind writes behind a sort
pub data Operated (sort : PartSort) (k : ℕ) : Infix → Type 0 where
  no-operator : Operated sort k no-infix
  joins : (op : Binary) (l : ℕ) (o r : Sort) → Joint k op l o r → Fits o sort → Operated sort k (between op)

data Compared (side : Side) (k : ℕ) : Infix → Type 0 where
  not-compared : Compared side k no-infix
  compared : (x : Relation) → CompareOp k x → Compared side k (between (Operator.comparison side x))

compares : (side : Side) (k : ℕ) → Compared side k (Table.comparison side k)
unfolding Table.comparison
compares side k =
    chosen (Compared side k) (eqb k Kind.EQUAL) _ _ (λ e. rw (eqb-true k _ e) (compared _ equal-op))
    (λ e. chosen (Compared side k) (eqb k Kind.UNEQUAL) _ _ (λ e. rw (eqb-true k _ e) (compared _ unequal-op))
    (λ e. chosen (Compared side k) (eqb k Kind.LESS) _ _ (λ e. rw (eqb-true k _ e) (compared _ less-op))
    (λ e. chosen (Compared side k) (eqb k Kind.GREATER) _ _ (λ e. rw (eqb-true k _ e) (compared _ greater-op))
    (λ e. chosen (Compared side k) (eqb k Kind.AT_MOST) _ _ (λ e. rw (eqb-true k _ e) (compared _ at-most-op))
    (λ e. chosen (Compared side k) (eqb k Kind.AT_LEAST) _ _ (λ e. rw (eqb-true k _ e) (compared _ at-least-op)) (λ e. not-compared))))))

number-compared : (k : ℕ) (i : Infix) → Compared Operator.integers k i → Operated (sorted an-integer) k i
number-compared k _ not-compared = no-operator
number-compared k _ (compared x c) = joins _ 2 an-integer a_test (j-numbers k x c) fit-number

abbrev pub N : ℕ → Infix → Type 0
N = Operated (sorted an-integer)

pub number-operated : (k : ℕ) → Operated (sorted an-integer) k (Table.number_operator k)
unfolding Table.number_operator
number-operated k =
    chosen (N k) (eqb k Kind.POWER) _ _ (λ e. rw (eqb-true k _ e) (joins _ 5 an-integer an-integer j-power fit-number))
    (λ e. chosen (N k) (eqb k Kind.TIMES) _ _ (λ e. rw (eqb-true k _ e) (joins _ 4 an-integer an-integer (j-product _ _ times-op) fit-number))
    (λ e. chosen (N k) (eqb k Kind.DIVIDE) _ _ (λ e. rw (eqb-true k _ e) (joins _ 4 an-integer an-integer (j-product _ _ divide-op) fit-number))
    (λ e. chosen (N k) (eqb k Kind.REMAINDER) _ _ (λ e. rw (eqb-true k _ e) (joins _ 4 an-integer an-integer (j-product _ _ remainder-op) fit-number))
    (λ e. chosen (N k) (eqb k Kind.PLUS) _ _ (λ e. rw (eqb-true k _ e) (joins _ 3 an-integer an-integer (j-sum _ _ plus-op) fit-number))
    (λ e. chosen (N k) (eqb k Kind.MINUS) _ _ (λ e. rw (eqb-true k _ e) (joins _ 3 an-integer an-integer (j-sum _ _ minus-op) fit-number))
    (λ e. number-compared k (Table.comparison Operator.integers k) (compares Operator.integers k)))))))

abbrev pub F : ℕ → Infix → Type 0
F = Operated (sorted a-float)

pub float-operated : (k : ℕ) → Operated (sorted a-float) k (Table.float_operator k)
unfolding Table.float_operator Table.ordering
float-operated k =
    chosen (F k) (eqb k Kind.POWER) _ _ (λ e. rw (eqb-true k _ e) (joins _ 5 a-float a-float j-float-power fit-float))
    (λ e. chosen (F k) (eqb k Kind.TIMES) _ _ (λ e. rw (eqb-true k _ e) (joins _ 4 a-float a-float (j-float-product _ _ float-times-op) fit-float))
    (λ e. chosen (F k) (eqb k Kind.DIVIDE) _ _ (λ e. rw (eqb-true k _ e) (joins _ 4 a-float a-float (j-float-product _ _ float-divide-op) fit-float))
    (λ e. chosen (F k) (eqb k Kind.PLUS) _ _ (λ e. rw (eqb-true k _ e) (joins _ 3 a-float a-float (j-float-sum _ _ float-plus-op) fit-float))
    (λ e. chosen (F k) (eqb k Kind.MINUS) _ _ (λ e. rw (eqb-true k _ e) (joins _ 3 a-float a-float (j-float-sum _ _ float-minus-op) fit-float))
    (λ e. chosen (F k) (eqb k Kind.LESS) _ _ (λ e. rw (eqb-true k _ e) (joins _ 2 a-float a_test (j-orders _ _ float-less-op) fit-float))
    (λ e. chosen (F k) (eqb k Kind.GREATER) _ _ (λ e. rw (eqb-true k _ e) (joins _ 2 a-float a_test (j-orders _ _ float-greater-op) fit-float))
    (λ e. chosen (F k) (eqb k Kind.AT_MOST) _ _ (λ e. rw (eqb-true k _ e) (joins _ 2 a-float a_test (j-orders _ _ float-at-most-op) fit-float))
    (λ e. chosen (F k) (eqb k Kind.AT_LEAST) _ _ (λ e. rw (eqb-true k _ e) (joins _ 2 a-float a_test (j-orders _ _ float-at-least-op) fit-float)) (λ e. no-operator)))))))))

text-compared : (sort : PartSort) (k : ℕ) (i : Infix) → Fits a-string sort → Compared Operator.strings k i → Operated sort k i
text-compared sort k _ f not-compared = no-operator
text-compared sort k _ f (compared x c) = joins _ 2 a-string a_test (j-texts k x c) f

pub text-operated : (sort : PartSort) (k : ℕ) → Fits a-string sort → Operated sort k (Table.text_operator k)
unfolding Table.text_operator
text-operated sort k f =
    chosen (Operated sort k) (eqb k Kind.DOT) _ _ (λ e. rw (eqb-true k _ e) (joins _ 3 a-string a-string j-join f))
    (λ e. chosen (Operated sort k) (eqb k Kind.MATCHES) _ _ (λ e. rw (eqb-true k _ e) (joins _ 2 a-string a_test j-match f)) (λ e. text-compared sort k (Table.comparison Operator.strings k) f (compares Operator.strings k)))

pub test-operated : (sort : PartSort) (k : ℕ) (other : Infix) → Fits a_test sort → Operated sort k other → Operated sort k (Table.test_operator k other)
unfolding Table.test_operator
test-operated sort k other f h =
    split (eqb k Kind.AND) (λ e. rw (eqb-true k _ e) (joins _ 1 a_test a_test j-and f))
    (λ e. split (eqb k Kind.OR) (λ g. rw (eqb-true k _ g) (joins _ 0 a_test a_test j-or f)) (λ g. rw (e, g) h))

-- an operator that a level does not take no tighter level takes
pub binds-less : (level m : ℕ) (i : Infix) → Table.binds level i ≡ false → level ≤ m → Table.binds m i ≡ false
unfolding Table.binds
binds-less level m no-infix h l = refl
binds-less level m (between op) h l = lt-leb m (Table.level_of op) (omega (arith, leb-false level (Table.level_of op) h, l))

pub binds-high : (m : ℕ) (i : Infix) → 5 < m → Table.binds m i ≡ false
unfolding Table.binds
binds-high m no-infix h = refl
binds-high m (between op) h = lt-leb m (Table.level_of op) (omega (arith, level-most op, h))

pub binds-none : (level : ℕ) (sort : PartSort) (k : ℕ) → k ≤ Kind.BAD_LINE → Table.binds level (Table.operator sort k) ≡ false
binds-none level sort k h =
    split (Table.binds level (Table.operator sort k)) (λ e. absurd (let l : Kind.BAD_LINE < k = operator-token level k sort e in let bad : ⊥ = omega (arith, l, h) in bad)) (λ e. e)

-- for the tables a word is a name
module _ (s : List ℕ) (t : Token) where
  -- a function that makes no difference between them
  pub kind-same : {A : Type 0} (f : ℕ → A) → f TRUTH ≡ f Kind.NAME → f (kind_in s t) ≡ f t.kind
  unfolding kind_in
  kind-same f h =
      split (eqb t.kind Kind.NAME)
      (λ e. let n : f Kind.NAME ≡ f t.kind = ap f (sym (eqb-true t.kind Kind.NAME e)) in
      rw e (chosen (λ (k : ℕ). f k ≡ f t.kind) (pick (spelled s t word_true) true (spelled s t word_false)) TRUTH Kind.NAME (λ g. h ∙ n) (λ g. n)))
      (λ e. rw e)

  pub operator-kind : (sort : PartSort) → Table.operator sort (kind_in s t) ≡ Table.operator sort t.kind
  unfolding Table.operator Table.number_operator Table.float_operator Table.ordering Table.text_operator Table.test_operator Table.comparison
  operator-kind (sorted a-string) = kind-same (λ (k : ℕ). Table.operator (sorted a-string) k) refl
  operator-kind (sorted an-integer) = kind-same (λ (k : ℕ). Table.operator (sorted an-integer) k) refl
  operator-kind (sorted a-float) = kind-same (λ (k : ℕ). Table.operator (sorted a-float) k) refl
  operator-kind (sorted a_test) = kind-same (λ (k : ℕ). Table.operator (sorted a_test) k) refl
  operator-kind (word b) = kind-same (λ (k : ℕ). Table.operator (word b) k) refl

  pub test-kind : (k : ℕ) → eqb TRUTH k ≡ false → eqb Kind.NAME k ≡ false → eqb (kind_in s t) k ≡ eqb t.kind k
  test-kind k a b = kind-same (λ (x : ℕ). eqb x k) (a ∙ sym b)
