-- What may stand where in Conditions, and what each operator takes and gives. Assumes nothing.
use Rattle.std.specs.Prelude.{Bool, true, false, ℕ, ◌+◌, eqb, leb}
use Rattle.text.specs.Choice.{pick}
use Rattle.lexical.specs.Kind
use Rattle.syntax.specs.Operator.{Unary, Binary, Side, Sort, a-string, an-integer, a-float, a_test, binary_takes}
use Rattle.syntax.specs.Operator as Operator

-- what was read: something of a sort, or the bare word true or false, which may become a test or a string
pub data PartSort : Type 0 where
  sorted : Sort → PartSort
  word : Bool → PartSort

-- what is wanted where an operand stands: anything, a string, an integer or a float, an integer, a float
pub data Want : Type 0 where
  want-any : Want
  want-string : Want
  want-number : Want
  want-integer : Want
  want-float : Want

-- a test may stand only where anything may
abbrev pub is_any : Want → Bool
is_any want-any = true
is_any want-string = false
is_any want-number = false
is_any want-integer = false
is_any want-float = false

-- "Strings: literals, names, "." and "$""
unfoldable pub begins_string : ℕ → Bool
begins_string k = pick (eqb k Kind.LITERAL) true (pick (eqb k Kind.NAME) true (eqb k Kind.DOLLAR))

-- "Integers: unary -", "@", digits
unfoldable pub begins_number : ℕ → Bool
begins_number k = pick (eqb k Kind.DIGITS) true (pick (eqb k Kind.MINUS) true (eqb k Kind.AT))

-- floats: unary "-", "&", a literal
unfoldable pub begins_float : ℕ → Bool
begins_float k = pick (eqb k Kind.FLOAT) true (pick (eqb k Kind.MINUS) true (eqb k Kind.AMPERSAND))

-- what begins with a token of kind k, besides brackets
abbrev pub begins : Want → ℕ → Bool
begins want-any k = pick (begins_number k) true (pick (begins_float k) true (pick (eqb k Kind.NOT) true (begins_string k)))
begins want-string k = begins_string k
begins want-number k = pick (begins_number k) true (begins_float k)
begins want-integer k = begins_number k
begins want-float k = begins_float k

-- may a token of kind k stand where `want` is wanted?
unfoldable pub allows : Want → ℕ → Bool
allows want k = pick (eqb k Kind.OPEN) true (begins want k)

-- what a token writes behind an operand: no operator, or one
pub data Infix : Type 0 where
  no-infix : Infix
  between : Binary → Infix

-- and before an operand
pub data Prefix : Type 0 where
  no-prefix : Prefix
  before : Unary → Prefix

-- go on by what it is
abbrev pub on_infix : {A : Type 0} → Infix → A → (Binary → A) → A
on_infix no-infix none some = none
on_infix (between op) none some = some op

abbrev pub on_prefix : {A : Type 0} → Prefix → A → (Unary → A) → A
on_prefix no-prefix none some = none
on_prefix (before op) none some = some op

-- the comparison that a token writes
unfoldable pub comparison : Side → ℕ → Infix
comparison side k =
    pick (eqb k Kind.EQUAL) (between (Operator.comparison side Operator.equal))
    (pick (eqb k Kind.UNEQUAL) (between (Operator.comparison side Operator.unequal))
    (pick (eqb k Kind.LESS) (between (Operator.comparison side Operator.less))
    (pick (eqb k Kind.GREATER) (between (Operator.comparison side Operator.greater))
    (pick (eqb k Kind.AT_MOST) (between (Operator.comparison side Operator.at_most))
    (pick (eqb k Kind.AT_LEAST) (between (Operator.comparison side Operator.at_least)) no-infix)))))

-- the operator behind an integer
unfoldable pub number_operator : ℕ → Infix
number_operator k =
    pick (eqb k Kind.POWER) (between Operator.power)
    (pick (eqb k Kind.TIMES) (between Operator.times)
    (pick (eqb k Kind.DIVIDE) (between Operator.over)
    (pick (eqb k Kind.REMAINDER) (between Operator.remainder)
    (pick (eqb k Kind.PLUS) (between Operator.plus)
    (pick (eqb k Kind.MINUS) (between Operator.minus) (comparison Operator.integers k))))))

-- the comparison of floats that a token writes: "Equality tests of floats are refused"
unfoldable pub ordering : ℕ → Infix
ordering k =
    pick (eqb k Kind.LESS) (between (Operator.float-order Operator.float-less))
    (pick (eqb k Kind.GREATER) (between (Operator.float-order Operator.float-greater))
    (pick (eqb k Kind.AT_MOST) (between (Operator.float-order Operator.float_at_most))
    (pick (eqb k Kind.AT_LEAST) (between (Operator.float-order Operator.float-at-least)) no-infix)))

-- the operator behind a float, which has no "%"
unfoldable pub float_operator : ℕ → Infix
float_operator k =
    pick (eqb k Kind.POWER) (between Operator.float-power)
    (pick (eqb k Kind.TIMES) (between Operator.float-times)
    (pick (eqb k Kind.DIVIDE) (between Operator.float-over)
    (pick (eqb k Kind.PLUS) (between Operator.float-plus)
    (pick (eqb k Kind.MINUS) (between Operator.float-minus) (ordering k)))))

-- the operator behind a string
unfoldable pub text_operator : ℕ → Infix
text_operator k = pick (eqb k Kind.DOT) (between Operator.join) (pick (eqb k Kind.MATCHES) (between Operator.matches) (comparison Operator.strings k))

-- the operator behind a test; another token has the other operator
unfoldable pub test_operator : ℕ → Infix → Infix
test_operator k other = pick (eqb k Kind.AND) (between Operator.both) (pick (eqb k Kind.OR) (between Operator.either) other)

-- "Both sides of a comparison have one type": the operator behind what was read; a bare word is a test or a string
unfoldable pub operator : PartSort → ℕ → Infix
operator (sorted a-string) k = text_operator k
operator (sorted an-integer) k = number_operator k
operator (sorted a-float) k = float_operator k
operator (sorted a_test) k = test_operator k no-infix
operator (word b) k = test_operator k (text_operator k)

-- the operator before an operand
unfoldable pub prefix_operator : ℕ → Prefix
prefix_operator k =
    pick (eqb k Kind.MINUS) (before Operator.negate)
    (pick (eqb k Kind.AT) (before Operator.convert)
    (pick (eqb k Kind.DOLLAR) (before Operator.lookup)
    (pick (eqb k Kind.NOT) (before Operator.opposite)
    (pick (eqb k Kind.AMPERSAND) (before Operator.to-float) no-prefix))))

-- unary "-" is that of what stands behind it: of an integer, or of a float
abbrev pub minus_of : PartSort → Unary
minus_of (sorted a-string) = Operator.negate
minus_of (sorted an-integer) = Operator.negate
minus_of (sorted a-float) = Operator.float-negate
minus_of (sorted a_test) = Operator.negate
minus_of (word b) = Operator.negate

abbrev pub prefix_of : Unary → PartSort → Unary
prefix_of Operator.lookup sort = Operator.lookup
prefix_of Operator.convert sort = Operator.convert
prefix_of Operator.negate sort = minus_of sort
prefix_of Operator.opposite sort = Operator.opposite
prefix_of Operator.to-float sort = Operator.to-float
prefix_of Operator.float-negate sort = Operator.float-negate

-- "! above && above || (house), a comparison inside", "then ^, then * / %, then + -": 0 || 1 && 2 comparisons 3 + - . 4 * / % 5 ^
unfoldable pub level_of : Binary → ℕ
level_of Operator.either = 0
level_of Operator.both = 1
level_of (Operator.comparison side relation) = 2
level_of Operator.matches = 2
level_of Operator.join = 3
level_of Operator.plus = 3
level_of Operator.minus = 3
level_of Operator.times = 4
level_of Operator.over = 4
level_of Operator.remainder = 4
level_of Operator.power = 5
level_of (Operator.float-order order) = 2
level_of Operator.float-plus = 3
level_of Operator.float-minus = 3
level_of Operator.float-times = 4
level_of Operator.float-over = 4
level_of Operator.float-power = 5

-- "!" takes a comparison; "@ and $ bind as unary -", ""&" binds as "@"", which take no operator between operands
unfoldable pub operand_level : Unary → ℕ
operand_level Operator.lookup = 6
operand_level Operator.convert = 6
operand_level Operator.negate = 6
operand_level Operator.opposite = 2
operand_level Operator.to-float = 6
operand_level Operator.float-negate = 6

-- where anything may stand, "-" takes an integer or a float
abbrev pub numeric : Want → Want
numeric want-any = want-number
numeric want-string = want-string
numeric want-number = want-number
numeric want-integer = want-integer
numeric want-float = want-float

-- what is wanted behind a prefix operator
unfoldable pub operand_want : Unary → Want → Want
operand_want Operator.lookup want = want-string
operand_want Operator.convert want = want-string
operand_want Operator.negate want = numeric want
operand_want Operator.opposite want = want-any
operand_want Operator.to-float want = want-string
operand_want Operator.float-negate want = want-float

-- what is wanted where an operand stands to the right
abbrev pub want_of : Sort → Want
want_of a_test = want-any
want_of a-string = want-string
want_of an-integer = want-integer
want_of a-float = want-float

-- what is wanted to the right of an operator
unfoldable pub right_want : Binary → Want
right_want op = want_of (binary_takes op)

-- "left to right in a class": the right operand reaches to the next operator of the same level
unfoldable pub right_level : Binary → ℕ
right_level op = level_of op + 1

-- does what a token writes belong to this level or one above?
unfoldable pub binds : ℕ → Infix → Bool
binds level no-infix = false
binds level (between op) = leb level (level_of op)

-- brackets hold a whole test, or a whole string, integer or float
unfoldable pub inside_level : Want → ℕ
inside_level want = pick (is_any want) 0 3

abbrev pub same_sort : Sort → Sort → Bool
same_sort a-string a-string = true
same_sort a-string an-integer = false
same_sort a-string a-float = false
same_sort a-string a_test = false
same_sort an-integer a-string = false
same_sort an-integer an-integer = true
same_sort an-integer a-float = false
same_sort an-integer a_test = false
same_sort a-float a-string = false
same_sort a-float an-integer = false
same_sort a-float a-float = true
same_sort a-float a_test = false
same_sort a_test a-string = false
same_sort a_test an-integer = false
same_sort a_test a-float = false
same_sort a_test a_test = true

-- what a bare word can become
abbrev pub of_word : Sort → Bool
of_word a-string = true
of_word an-integer = false
of_word a-float = false
of_word a_test = true

-- is what was read of this sort, or a bare word that can become it?
unfoldable pub fits : Sort → PartSort → Bool
fits wanted (sorted x) = same_sort wanted x
fits wanted (word b) = of_word wanted

-- a program ends before "}" if it stands in brackets, else with its field
unfoldable pub stops : ℕ → ℕ → Bool
stops nest k = pick (eqb nest 0) (Kind.ending k) (eqb k Kind.CLOSE_BRACE)
