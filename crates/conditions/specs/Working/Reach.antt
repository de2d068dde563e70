-- Facts of the tables: what may stand, and how far an operator reaches. Assumes nothing.
use Rattle.std.specs.Prelude.{◌≡◌, Bool, true, false, ℕ, ◌+◌, ◌-◌, ◌*◌, ◌<◌, ◌≤◌, eqb}
use Rattle.std.proofs.Math.Path.{refl}
use Rattle.std.proofs.Common.{ap, arith}
use borrow.Author.Tests.{leb-true, eqb-true}
use Rattle.text.specs.Choice.{pick, split, clash}
use Rattle.lexical.specs.Kind
use Rattle.lexical.specs.Theorems.Bounds.{chosen}
use Rattle.syntax.specs.Operator.{Unary, Binary, lookup, convert, negate, opposite, to-float, float-negate, join, power, times, over, remainder, plus, minus, comparison, matches, float-power, float-times, float-over, float-plus, float-minus, float-order, both, either, strings, integers}
use Rattle.conditions.specs.Table.{PartSort, sorted, word, Want, want-any, want-string, want-number, want-integer, want-float, is_any, Infix, no-infix, between, Prefix, no-prefix, before}
use Rattle.conditions.specs.Table
use Rattle.limits.specs.Limits.{most_prefixes}

-- a token that may stand as an operand is no fault and not the end
abbrev Real : ℕ → Bool → Type 0
Real k b = b ≡ true → Kind.BAD_LINE < k

string-real : (k : ℕ) → Real k (Table.begins_string k)
unfolding Table.begins_string
string-real k =
    chosen (Real k) (eqb k Kind.LITERAL) true _ (λ e h. omega (arith, eqb-true k Kind.LITERAL e))
    (λ e. chosen (Real k) (eqb k Kind.NAME) true _ (λ f h. omega (arith, eqb-true k Kind.NAME f)) (λ f h. omega (arith, eqb-true k Kind.DOLLAR h)))

number-real : (k : ℕ) → Real k (Table.begins_number k)
unfolding Table.begins_number
number-real k =
    chosen (Real k) (eqb k Kind.DIGITS) true _ (λ e h. omega (arith, eqb-true k Kind.DIGITS e))
    (λ e. chosen (Real k) (eqb k Kind.MINUS) true _ (λ f h. omega (arith, eqb-true k Kind.MINUS f)) (λ f h. omega (arith, eqb-true k Kind.AT h)))

float-real : (k : ℕ) → Real k (Table.begins_float k)
unfolding Table.begins_float
float-real k =
    chosen (Real k) (eqb k Kind.FLOAT) true _ (λ e h. omega (arith, eqb-true k Kind.FLOAT e))
    (λ e. chosen (Real k) (eqb k Kind.MINUS) true _ (λ f h. omega (arith, eqb-true k Kind.MINUS f)) (λ f h. omega (arith, eqb-true k Kind.AMPERSAND h)))

begins-real : (want : Want) (k : ℕ) → Real k (Table.begins want k)
begins-real want-any k =
    chosen (Real k) (Table.begins_number k) true _ (λ i h. number-real k i)
    (λ i. chosen (Real k) (Table.begins_float k) true _ (λ l h. float-real k l)
    (λ l. chosen (Real k) (eqb k Kind.NOT) true _ (λ f h. omega (arith, eqb-true k Kind.NOT f)) (λ f. string-real k)))
begins-real want-string k = string-real k
begins-real want-number k = chosen (Real k) (Table.begins_number k) true _ (λ i h. number-real k i) (λ i. float-real k)
begins-real want-integer k = number-real k
begins-real want-float k = float-real k

pub allowed-real : (want : Want) (k : ℕ) → Table.allows want k ≡ true → Kind.BAD_LINE < k
unfolding Table.allows
allowed-real want k = chosen (Real k) (eqb k Kind.OPEN) true _ (λ e h. omega (arith, eqb-true k Kind.OPEN e)) (λ e. begins-real want k)

pub is_any_lem : (want : Want) → is_any want ≡ true → want ≡ want-any
is_any_lem want-any e = refl
is_any_lem want-string e = clash e refl
is_any_lem want-number e = clash e refl
is_any_lem want-integer e = clash e refl
is_any_lem want-float e = clash e refl

-- wants differ
pub string-any : {A : Type 0} → want-string ≡ want-any → A
string-any e = clash (ap is_any e) refl

-- the widest operand that may stand: behind "!" where a test may stand
unfoldable pub spread : Want → ℕ
spread want = pick (is_any want) 68 0

pub spread-level : (want : Want) (level : ℕ) → (want ≡ want-any → level ≤ 2) → spread want ≤ (6 - level) * (most_prefixes + 1)
unfolding spread
spread-level want level h =
    chosen (λ (n : ℕ). n ≤ (6 - level) * (most_prefixes + 1)) (is_any want) 68 0 (λ e. omega (arith, h (is_any_lem want e))) (λ e. omega arith)

pub operand-level-most : (op : Unary) → Table.operand_level op ≤ 6
unfolding Table.operand_level
operand-level-most lookup = omega arith
operand-level-most convert = omega arith
operand-level-most negate = omega arith
operand-level-most opposite = omega arith
operand-level-most to-float = omega arith
operand-level-most float-negate = omega arith

number-wanted : (want : Want) → Table.numeric want ≡ want-any → 6 ≤ 2
number-wanted want-any h = clash (ap is_any h) refl
number-wanted want-string h = clash (ap is_any h) refl
number-wanted want-number h = clash (ap is_any h) refl
number-wanted want-integer h = clash (ap is_any h) refl
number-wanted want-float h = clash (ap is_any h) refl

operand-level-least : (op : Unary) → 2 ≤ Table.operand_level op
unfolding Table.operand_level
operand-level-least lookup = omega arith
operand-level-least convert = omega arith
operand-level-least negate = omega arith
operand-level-least opposite = omega arith
operand-level-least to-float = omega arith
operand-level-least float-negate = omega arith

pub operand-wanted : (op : Unary) (want : Want) → Table.operand_want op want ≡ want-any → Table.operand_level op ≤ 2
unfolding Table.operand_want Table.operand_level
operand-wanted lookup want h = string-any h
operand-wanted convert want h = string-any h
operand-wanted negate want h = number-wanted want h
operand-wanted opposite want h = omega arith
operand-wanted to-float want h = string-any h
operand-wanted float-negate want h = clash (ap is_any h) refl

-- "!" stands only where a test may
not-wanted : (want : Want) (k : ℕ) → k ≡ Kind.NOT → Table.allows want k ≡ true → is_any want ≡ true
unfolding Table.allows Table.begins_string Table.begins_number Table.begins_float
not-wanted want-any k e h = refl
not-wanted want-string k e h = clash (rw e at h) refl
not-wanted want-number k e h = clash (rw e at h) refl
not-wanted want-integer k e h = clash (rw e at h) refl
not-wanted want-float k e h = clash (rw e at h) refl

spread-any : (want : Want) → is_any want ≡ true → spread want ≡ 68
unfolding spread
spread-any want e = rw e

-- the level of what is read behind an operator before an operand
abbrev level_behind : Prefix → ℕ
level_behind i = Table.on_prefix i 6 (λ op. Table.operand_level op)

other-level : (k : ℕ) → eqb k Kind.NOT ≡ false → level_behind (Table.prefix_operator k) ≡ 6
unfolding Table.prefix_operator Table.operand_level
other-level k n =
    rw n (chosen (λ (i : Prefix). level_behind i ≡ 6) (eqb k Kind.MINUS) (before negate) _ (λ e. refl)
    (λ e. chosen (λ (i : Prefix). level_behind i ≡ 6) (eqb k Kind.AT) (before convert) _ (λ f. refl)
    (λ f. chosen (λ (i : Prefix). level_behind i ≡ 6) (eqb k Kind.DOLLAR) (before lookup) _ (λ g. refl)
    (λ g. chosen (λ (i : Prefix). level_behind i ≡ 6) (eqb k Kind.AMPERSAND) (before to-float) no-prefix (λ h. refl) (λ h. refl)))))

-- an operator that may stand before an operand reaches no further than that operand may
pub prefix-level : (want : Want) (k : ℕ) (op : Unary) → Table.allows want k ≡ true → Table.prefix_operator k ≡ before op → (6 - Table.operand_level op) * (most_prefixes + 1) ≤ spread want
prefix-level want k op h i =
    split (eqb k Kind.NOT)
    (λ e. let w : spread want ≡ 68 = spread-any want (not-wanted want k (eqb-true k Kind.NOT e) h) in omega (arith, w, operand-level-least op))
    (λ e. let q : level_behind (Table.prefix_operator k) ≡ Table.operand_level op = ap level_behind i in omega (arith, q, other-level k e))

pub inside-most : (want : Want) → Table.inside_level want ≤ 6
unfolding Table.inside_level
inside-most want = chosen (λ (n : ℕ). n ≤ 6) (is_any want) 0 3 (λ e. omega arith) (λ e. omega arith)

pub inside-wanted : (want : Want) → want ≡ want-any → Table.inside_level want ≤ 2
unfolding Table.inside_level
inside-wanted want h = rw h (omega arith)

pub level-most : (op : Binary) → Table.level_of op < 6
unfolding Table.level_of
level-most join = omega arith
level-most power = omega arith
level-most times = omega arith
level-most over = omega arith
level-most remainder = omega arith
level-most plus = omega arith
level-most minus = omega arith
level-most (comparison side r) = omega arith
level-most matches = omega arith
level-most float-power = omega arith
level-most float-times = omega arith
level-most float-over = omega arith
level-most float-plus = omega arith
level-most float-minus = omega arith
level-most (float-order order) = omega arith
level-most both = omega arith
level-most either = omega arith

-- a test to the right of an operator is read by "&&" or "||"
pub right-wanted : (op : Binary) → Table.right_want op ≡ want-any → Table.right_level op ≤ 2
unfolding Table.right_want Table.right_level Table.level_of
right-wanted join h = string-any h
right-wanted power h = clash (ap is_any h) refl
right-wanted times h = clash (ap is_any h) refl
right-wanted over h = clash (ap is_any h) refl
right-wanted remainder h = clash (ap is_any h) refl
right-wanted plus h = clash (ap is_any h) refl
right-wanted minus h = clash (ap is_any h) refl
right-wanted (comparison strings r) h = string-any h
right-wanted (comparison integers r) h = clash (ap is_any h) refl
right-wanted matches h = string-any h
right-wanted float-power h = clash (ap is_any h) refl
right-wanted float-times h = clash (ap is_any h) refl
right-wanted float-over h = clash (ap is_any h) refl
right-wanted float-plus h = clash (ap is_any h) refl
right-wanted float-minus h = clash (ap is_any h) refl
right-wanted (float-order order) h = clash (ap is_any h) refl
right-wanted both h = omega arith
right-wanted either h = omega arith

pub binds-level : (level : ℕ) (op : Binary) → Table.binds level (between op) ≡ true → level ≤ Table.level_of op
unfolding Table.binds
binds-level level op h = leb-true level (Table.level_of op) h
