-- The tables by number say what the tables of the operators say. Assumes nothing.
use Rattle.std.specs.Prelude.{◌≡◌, Bool, true, false, List, [], ◌∷◌, ℕ, ◌+◌, eqb, ltb, leb, get_or}
use Rattle.std.proofs.Math.Path.{refl}
use Rattle.std.proofs.Common.{sym, ap, ◌∙◌, arith, ltb-true, ltb-false, le-leb, ne_eqb}
use Rattle.std.proofs.lemmas.Bool.{lt-leb}
use Rattle.text.specs.Choice.{pick, split, clash}
use Rattle.lexical.specs.Kind
use Rattle.syntax.specs.Operator.{Unary, Binary, Sort, a-string, an-integer, a-float, a_test, unary_takes, unary_gives, binary_takes, binary_gives, lookup, convert, negate, opposite, to-float, float-negate, join, power, times, over, remainder, plus, minus, comparison, matches, float-power, float-times, float-over, float-plus, float-minus, float-order, float-less, float-greater, float_at_most, float-at-least, both, either, strings, integers, equal, unequal, less, greater, at_most, at_least}
use Rattle.syntax.specs.Operation.{unary_number, binary_number}
use Rattle.syntax.specs.Theorems.Numbers.{unary-between}
use Rattle.conditions.specs.Table.{PartSort, sorted, word, Want, want-any, want-string, want-number, want-integer, want-float, Infix, no-infix, between, Prefix, no-prefix, before}
use Rattle.lexical.specs.Word.{spells, word_true, word_false}
use Rattle.conditions.specs.Table
use Rattle.conditions.specs.Word.{word_sort}
use Rattle.conditions.specs.Working.Numbered.{infix_number, prefix_number, sort_number, want_number}
use Rattle.conditions.specs.Working.Numbered
use Rattle.conditions.specs.Working.Same.{both as alike}

abbrev SortIs : ℕ → PartSort → Type 0
SortIs n x = n ≡ sort_number x

-- what a token writes
abbrev pub Is : ℕ → Infix → Type 0
Is n i = n ≡ infix_number i

text-compared : (k : ℕ) → Is (Numbered.comparison k) (Table.comparison strings k)
unfolding Numbered.comparison Table.comparison
text-compared k =
    alike Is (eqb k Kind.EQUAL) _ _ _ _ (λ h. refl)
    (λ h. alike Is (eqb k Kind.UNEQUAL) _ _ _ _ (λ h. refl)
    (λ h. alike Is (eqb k Kind.LESS) _ _ _ _ (λ h. refl)
    (λ h. alike Is (eqb k Kind.GREATER) _ _ _ _ (λ h. refl)
    (λ h. alike Is (eqb k Kind.AT_MOST) _ _ _ _ (λ h. refl)
    (λ h. alike Is (eqb k Kind.AT_LEAST) _ _ _ _ (λ h. refl) (λ h. refl))))))

-- a comparison of integers stands seven behind that of strings
abbrev Seven : ℕ → Infix → Type 0
Seven n i = pick (eqb n Numbered.NONE) Numbered.NONE (n + 7) ≡ infix_number i

number-compared : (k : ℕ) → Seven (Numbered.comparison k) (Table.comparison integers k)
unfolding Numbered.comparison Table.comparison
number-compared k =
    alike Seven (eqb k Kind.EQUAL) _ _ _ _ (λ h. refl)
    (λ h. alike Seven (eqb k Kind.UNEQUAL) _ _ _ _ (λ h. refl)
    (λ h. alike Seven (eqb k Kind.LESS) _ _ _ _ (λ h. refl)
    (λ h. alike Seven (eqb k Kind.GREATER) _ _ _ _ (λ h. refl)
    (λ h. alike Seven (eqb k Kind.AT_MOST) _ _ _ _ (λ h. refl)
    (λ h. alike Seven (eqb k Kind.AT_LEAST) _ _ _ _ (λ h. refl) (λ h. refl))))))

pub number-number : (k : ℕ) → Is (Numbered.number_operator k) (Table.number_operator k)
unfolding Numbered.number_operator Table.number_operator
number-number k =
    alike Is (eqb k Kind.POWER) _ _ _ _ (λ h. refl)
    (λ h. alike Is (eqb k Kind.TIMES) _ _ _ _ (λ h. refl)
    (λ h. alike Is (eqb k Kind.DIVIDE) _ _ _ _ (λ h. refl)
    (λ h. alike Is (eqb k Kind.REMAINDER) _ _ _ _ (λ h. refl)
    (λ h. alike Is (eqb k Kind.PLUS) _ _ _ _ (λ h. refl)
    (λ h. alike Is (eqb k Kind.MINUS) _ _ _ _ (λ h. refl) (λ h. number-compared k))))))

pub float-number : (k : ℕ) → Is (Numbered.float_operator k) (Table.float_operator k)
unfolding Numbered.float_operator Table.float_operator Table.ordering
float-number k =
    alike Is (eqb k Kind.POWER) _ _ _ _ (λ h. refl)
    (λ h. alike Is (eqb k Kind.TIMES) _ _ _ _ (λ h. refl)
    (λ h. alike Is (eqb k Kind.DIVIDE) _ _ _ _ (λ h. refl)
    (λ h. alike Is (eqb k Kind.PLUS) _ _ _ _ (λ h. refl)
    (λ h. alike Is (eqb k Kind.MINUS) _ _ _ _ (λ h. refl)
    (λ h. alike Is (eqb k Kind.LESS) _ _ _ _ (λ h. refl)
    (λ h. alike Is (eqb k Kind.GREATER) _ _ _ _ (λ h. refl)
    (λ h. alike Is (eqb k Kind.AT_MOST) _ _ _ _ (λ h. refl)
    (λ h. alike Is (eqb k Kind.AT_LEAST) _ _ _ _ (λ h. refl) (λ h. refl)))))))))

pub text-number : (k : ℕ) → Is (Numbered.text_operator k) (Table.text_operator k)
unfolding Numbered.text_operator Table.text_operator
text-number k = alike Is (eqb k Kind.DOT) _ _ _ _ (λ h. refl) (λ h. alike Is (eqb k Kind.MATCHES) _ _ _ _ (λ h. refl) (λ h. text-compared k))

pub test-number : (k n : ℕ) (i : Infix) → Is n i → Is (pick (eqb (Numbered.test_operator k) Numbered.NONE) n (Numbered.test_operator k)) (Table.test_operator k i)
unfolding Numbered.test_operator Table.test_operator
test-number k n i h = split (eqb k Kind.AND) (λ e. rw e) (λ e. split (eqb k Kind.OR) (λ f. rw (e, f)) (λ f. rw (e, f) h))

-- what may stand where, and what fits
pick_same : (b : Bool) → pick b true false ≡ b
pick_same true = refl
pick_same false = refl

pub allows-number : (want : Want) (k : ℕ) → Numbered.allows (want_number want) k ≡ Table.allows want k
unfolding Numbered.allows Numbered.begins Table.allows
allows-number want-any k = refl
allows-number want-string k = refl
allows-number want-number k =
    ap (λ (b : Bool). pick (eqb k Kind.OPEN) true (pick (Table.begins_number k) true b)) (pick_same (Table.begins_float k))
allows-number want-integer k = refl
allows-number want-float k = refl

pub inside-number : (want : Want) → Numbered.inside_level (want_number want) ≡ Table.inside_level want
unfolding Numbered.inside_level Table.inside_level
inside-number want-any = refl
inside-number want-string = refl
inside-number want-number = refl
inside-number want-integer = refl
inside-number want-float = refl

pub fits-number : (wanted : Sort) (sort : PartSort) → Numbered.fits (sort_number (sorted wanted)) (sort_number sort) ≡ Table.fits wanted sort
unfolding Numbered.fits Table.fits
fits-number a-string (sorted a-string) = refl
fits-number a-string (sorted an-integer) = refl
fits-number a-string (sorted a-float) = refl
fits-number a-string (sorted a_test) = refl
fits-number a-string (word true) = refl
fits-number a-string (word false) = refl
fits-number an-integer (sorted a-string) = refl
fits-number an-integer (sorted an-integer) = refl
fits-number an-integer (sorted a-float) = refl
fits-number an-integer (sorted a_test) = refl
fits-number an-integer (word true) = refl
fits-number an-integer (word false) = refl
fits-number a-float (sorted a-string) = refl
fits-number a-float (sorted an-integer) = refl
fits-number a-float (sorted a-float) = refl
fits-number a-float (sorted a_test) = refl
fits-number a-float (word true) = refl
fits-number a-float (word false) = refl
fits-number a_test (sorted a-string) = refl
fits-number a_test (sorted an-integer) = refl
fits-number a_test (sorted a-float) = refl
fits-number a_test (sorted a_test) = refl
fits-number a_test (word true) = refl
fits-number a_test (word false) = refl

-- a bare word where anything may stand
pub word_number : (s : List ℕ) (want : Want) (start end : ℕ) → Numbered.word_sort s (want_number want) start end ≡ sort_number (word_sort s want start end)
unfolding Numbered.word_sort word_sort
word_number s want-any start end =
    alike SortIs (spells s start end word_true) _ _ _ _ (λ e. refl) (λ e. alike SortIs (spells s start end word_false) _ _ _ _ (λ f. refl) (λ f. refl))
word_number s want-string start end = refl
word_number s want-number start end = refl
word_number s want-integer start end = refl
word_number s want-float start end = refl

abbrev Writes : ℕ → Prefix → Type 0
Writes n i = n ≡ prefix_number i

pub prefix-number : (k : ℕ) → Numbered.prefix_operator k ≡ prefix_number (Table.prefix_operator k)
unfolding Numbered.prefix_operator Table.prefix_operator
prefix-number k =
    alike Writes (eqb k Kind.MINUS) _ _ _ _ (λ h. refl)
    (λ h. alike Writes (eqb k Kind.AT) _ _ _ _ (λ h. refl)
    (λ h. alike Writes (eqb k Kind.DOLLAR) _ _ _ _ (λ h. refl)
    (λ h. alike Writes (eqb k Kind.NOT) _ _ _ _ (λ h. refl)
    (λ h. alike Writes (eqb k Kind.AMPERSAND) _ _ _ _ (λ h. refl) (λ h. refl)))))

-- what an operator takes and gives, and where it binds
pub unary-row : (op : Unary) → (Numbered.operand_level (unary_number op) ≡ Table.operand_level op)
    × (Numbered.operand_of (unary_number op) ≡ sort_number (sorted (unary_takes op))) × (Numbered.result_of (unary_number op) ≡ sort_number (sorted (unary_gives op)))
unfolding Numbered.operand_level Numbered.operand_of Numbered.result_of Table.operand_level
unary-row lookup = (refl, refl, refl)
unary-row convert = (refl, refl, refl)
unary-row negate = (refl, refl, refl)
unary-row opposite = (refl, refl, refl)
unary-row to-float = (refl, refl, refl)
unary-row float-negate = (refl, refl, refl)

negate-want : (want : Want) → pick (eqb (want_number want) Numbered.ANY) Numbered.NUMBER (want_number want) ≡ want_number (Table.numeric want)
negate-want want-any = refl
negate-want want-string = refl
negate-want want-number = refl
negate-want want-integer = refl
negate-want want-float = refl

pub unary-want : (op : Unary) (want : Want) → Numbered.operand_want (unary_number op) (want_number want) ≡ want_number (Table.operand_want op want)
unfolding Numbered.operand_want Table.operand_want
unary-want lookup want = refl
unary-want convert want = refl
unary-want negate want = negate-want want
unary-want opposite want = refl
unary-want to-float want = refl
unary-want float-negate want = refl

-- unary "-" by what stands behind it
minus_number : (sort : PartSort) → Numbered.prefix_of (unary_number negate) (sort_number sort) ≡ unary_number (Table.minus_of sort)
unfolding Numbered.prefix_of
minus_number (sorted a-string) = refl
minus_number (sorted an-integer) = refl
minus_number (sorted a-float) = refl
minus_number (sorted a_test) = refl
minus_number (word true) = refl
minus_number (word false) = refl

pub prefix-of : (op : Unary) (sort : PartSort) → Numbered.prefix_of (unary_number op) (sort_number sort) ≡ unary_number (Table.prefix_of op sort)
unfolding Numbered.prefix_of
prefix-of lookup sort = refl
prefix-of convert sort = refl
prefix-of negate sort = minus_number sort
prefix-of opposite sort = refl
prefix-of to-float sort = refl
prefix-of float-negate sort = refl

pub binary-row : (op : Binary) → (Numbered.level_of (binary_number op) ≡ Table.level_of op)
    × (Numbered.operand_of (binary_number op) ≡ sort_number (sorted (binary_takes op))) × (Numbered.result_of (binary_number op) ≡ sort_number (sorted (binary_gives op)))
unfolding Numbered.level_of Numbered.level_above Numbered.operand_of Numbered.operand_above Numbered.result_of Numbered.result_above Table.level_of
binary-row join = (refl, refl, refl)
binary-row power = (refl, refl, refl)
binary-row times = (refl, refl, refl)
binary-row over = (refl, refl, refl)
binary-row remainder = (refl, refl, refl)
binary-row plus = (refl, refl, refl)
binary-row minus = (refl, refl, refl)
binary-row (comparison strings equal) = (refl, refl, refl)
binary-row (comparison strings unequal) = (refl, refl, refl)
binary-row (comparison strings less) = (refl, refl, refl)
binary-row (comparison strings greater) = (refl, refl, refl)
binary-row (comparison strings at_most) = (refl, refl, refl)
binary-row (comparison strings at_least) = (refl, refl, refl)
binary-row (comparison integers equal) = (refl, refl, refl)
binary-row (comparison integers unequal) = (refl, refl, refl)
binary-row (comparison integers less) = (refl, refl, refl)
binary-row (comparison integers greater) = (refl, refl, refl)
binary-row (comparison integers at_most) = (refl, refl, refl)
binary-row (comparison integers at_least) = (refl, refl, refl)
binary-row matches = (refl, refl, refl)
binary-row float-power = (refl, refl, refl)
binary-row float-times = (refl, refl, refl)
binary-row float-over = (refl, refl, refl)
binary-row float-plus = (refl, refl, refl)
binary-row float-minus = (refl, refl, refl)
binary-row (float-order float-less) = (refl, refl, refl)
binary-row (float-order float-greater) = (refl, refl, refl)
binary-row (float-order float_at_most) = (refl, refl, refl)
binary-row (float-order float-at-least) = (refl, refl, refl)
binary-row both = (refl, refl, refl)
binary-row either = (refl, refl, refl)

pub wanted-number : (x : Sort) → sort_number (sorted x) ≡ want_number (Table.want_of x)
wanted-number a-string = refl
wanted-number an-integer = refl
wanted-number a-float = refl
wanted-number a_test = refl

pub at-least-level : (a b : ℕ) → pick (ltb a b) false true ≡ leb b a
at-least-level a b = split (ltb a b) (λ e. rw (e, lt-leb b a (ltb-true a b e))) (λ e. rw (e, le-leb b a (ltb-false a b e)))

-- sorts and wants differ in their numbers
abbrev sorts : List PartSort
sorts = sorted a_test ∷ sorted a-string ∷ sorted an-integer ∷ sorted a-float ∷ word true ∷ word false ∷ []

sort-listed : (x : PartSort) → get_or sorts (sort_number x) (word true) ≡ x
sort-listed (sorted a-string) = refl
sort-listed (sorted an-integer) = refl
sort-listed (sorted a-float) = refl
sort-listed (sorted a_test) = refl
sort-listed (word true) = refl
sort-listed (word false) = refl

pub sorts-differ : (x y : PartSort) → sort_number x ≡ sort_number y → x ≡ y
sorts-differ x y e = sym (sort-listed x) ∙ ap (λ (n : ℕ). get_or sorts n (word true)) e ∙ sort-listed y

abbrev wants : List Want
wants = want-any ∷ want-string ∷ want-integer ∷ want-float ∷ want-number ∷ []

want-listed : (x : Want) → get_or wants (want_number x) want-any ≡ x
want-listed want-any = refl
want-listed want-string = refl
want-listed want-number = refl
want-listed want-integer = refl
want-listed want-float = refl

pub wants-differ : (x y : Want) → want_number x ≡ want_number y → x ≡ y
wants-differ x y e = sym (want-listed x) ∙ ap (λ (n : ℕ). get_or wants n want-any) e ∙ want-listed y

-- what holds of two choices by what a token writes, and by its number
module _ {A B : Type 0} (T : A → B → Type 0) where
  pub alike-prefix : (i : Prefix) (a : A) (f : Unary → A) (c : B) (g : ℕ → B) → T a c → ((op : Unary) → i ≡ before op → T (f op) (g (unary_number op)))
      → T (Table.on_prefix i a f) (pick (eqb (prefix_number i) Numbered.NONE) c (g (prefix_number i)))
  alike-prefix no-prefix a f c g h k = h
  alike-prefix (before op) a f c g h k = rw (ne_eqb (unary_number op) 0 (λ z. omega (arith, z, (unary-between op).0))) (k op refl)

  pub alike-infix : (level : ℕ) (i : Infix) (a : A) (f : Binary → A) (g : ℕ → B) → Table.binds level i ≡ true → ((op : Binary) → i ≡ between op → T (f op) (g (binary_number op)))
      → T (Table.on_infix i a f) (g (infix_number i))
  unfolding Table.binds
  alike-infix level no-infix a f g h k = clash h refl
  alike-infix level (between op) a f g h k = k op refl
