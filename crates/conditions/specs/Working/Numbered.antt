-- What the code holds for operators, sorts and wants: their numbers, and the tables by number. Assumes nothing.
use Rattle.std.specs.Prelude.{Bool, true, false, List, ℕ, ◌+◌, eqb, ltb}
use Rattle.text.specs.Choice.{pick}
use Rattle.lexical.specs.Kind
use Rattle.syntax.specs.Op
use Rattle.syntax.specs.Operation.{unary_number, binary_number}
use Rattle.lexical.specs.Word.{spells, word_true, word_false}
use Rattle.syntax.specs.Operator.{a-string, an-integer, a-float, a_test}
use Rattle.conditions.specs.Table.{PartSort, sorted, word, Want, want-any, want-string, want-number, want-integer, want-float, begins_string, begins_number, begins_float, Infix, no-infix, between, Prefix, no-prefix, before}

-- wanted: anything
abbrev pub ANY : ℕ
ANY = 0

-- wanted, and a sort: a string
abbrev pub TEXT : ℕ
TEXT = 1

-- an integer
abbrev pub INTEGER : ℕ
INTEGER = 2

-- a float
abbrev pub FLOAT : ℕ
FLOAT = 3

-- wanted: an integer or a float
abbrev pub NUMBER : ℕ
NUMBER = 4

-- sorts: a test
abbrev pub TEST : ℕ
TEST = 0

-- the bare word true
abbrev pub TRUE : ℕ
TRUE = 4

-- the bare word false
abbrev pub FALSE : ℕ
FALSE = 5

-- the number that the code holds for what was read, and for what is wanted
abbrev pub sort_number : PartSort → ℕ
sort_number (sorted a-string) = TEXT
sort_number (sorted an-integer) = INTEGER
sort_number (sorted a-float) = FLOAT
sort_number (sorted a_test) = TEST
sort_number (word true) = TRUE
sort_number (word false) = FALSE

abbrev pub want_number : Want → ℕ
want_number want-any = ANY
want_number want-string = TEXT
want_number want-number = NUMBER
want_number want-integer = INTEGER
want_number want-float = FLOAT

-- what begins with a token of kind k where a number or anything is wanted
unfoldable pub begins : ℕ → ℕ → Bool
begins want k =
    pick (begins_number k) true (pick (begins_float k) true (pick (eqb want NUMBER) false (pick (eqb k Kind.NOT) true (begins_string k))))

-- may a token of kind k stand where `want` is wanted?
unfoldable pub allows : ℕ → ℕ → Bool
allows want k =
    pick (eqb k Kind.OPEN) true
    (pick (eqb want TEXT) (begins_string k)
    (pick (eqb want INTEGER) (begins_number k)
    (pick (eqb want FLOAT) (begins_float k) (begins want k))))

-- brackets hold a whole test, or a whole string, integer or float
unfoldable pub inside_level : ℕ → ℕ
inside_level want = pick (eqb want ANY) 0 3

-- is what was read of this sort, or a bare word that can become it?
unfoldable pub fits : ℕ → ℕ → Bool
fits wanted sort = pick (eqb sort wanted) true (pick (ltb sort TRUE) false (ltb wanted INTEGER))

-- ""true" and "false" may also be attribute names": where both may stand, the word is not settled yet
unfoldable pub word_sort : List ℕ → ℕ → ℕ → ℕ → ℕ
word_sort s want start end =
    pick (eqb want ANY) (pick (spells s start end word_true) TRUE (pick (spells s start end word_false) FALSE TEXT)) TEXT

-- no operator
abbrev pub NONE : ℕ
NONE = 0

-- the comparison of strings that a token writes, or NONE
unfoldable pub comparison : ℕ → ℕ
comparison k =
    pick (eqb k Kind.EQUAL) Op.TEXT_EQUAL
    (pick (eqb k Kind.UNEQUAL) Op.TEXT_UNEQUAL
    (pick (eqb k Kind.LESS) Op.TEXT_LESS
    (pick (eqb k Kind.GREATER) Op.TEXT_GREATER
    (pick (eqb k Kind.AT_MOST) Op.TEXT_AT_MOST
    (pick (eqb k Kind.AT_LEAST) Op.TEXT_AT_LEAST NONE)))))

-- the operator behind an integer; a comparison of integers stands seven behind that of strings
unfoldable pub number_operator : ℕ → ℕ
number_operator k =
    pick (eqb k Kind.POWER) Op.POWER
    (pick (eqb k Kind.TIMES) Op.TIMES
    (pick (eqb k Kind.DIVIDE) Op.OVER
    (pick (eqb k Kind.REMAINDER) Op.REMAINDER
    (pick (eqb k Kind.PLUS) Op.PLUS
    (pick (eqb k Kind.MINUS) Op.MINUS
    (pick (eqb (comparison k) NONE) NONE (comparison k + 7)))))))

-- the operator behind a float
unfoldable pub float_operator : ℕ → ℕ
float_operator k =
    pick (eqb k Kind.POWER) Op.FLOAT_POWER
    (pick (eqb k Kind.TIMES) Op.FLOAT_TIMES
    (pick (eqb k Kind.DIVIDE) Op.FLOAT_OVER
    (pick (eqb k Kind.PLUS) Op.FLOAT_PLUS
    (pick (eqb k Kind.MINUS) Op.FLOAT_MINUS
    (pick (eqb k Kind.LESS) Op.FLOAT_LESS
    (pick (eqb k Kind.GREATER) Op.FLOAT_GREATER
    (pick (eqb k Kind.AT_MOST) Op.FLOAT_AT_MOST
    (pick (eqb k Kind.AT_LEAST) Op.FLOAT_AT_LEAST NONE))))))))

-- the operator behind a string
unfoldable pub text_operator : ℕ → ℕ
text_operator k = pick (eqb k Kind.DOT) Op.JOIN (pick (eqb k Kind.MATCHES) Op.MATCHES (comparison k))

-- the operator behind a test
unfoldable pub test_operator : ℕ → ℕ
test_operator k = pick (eqb k Kind.AND) Op.BOTH (pick (eqb k Kind.OR) Op.EITHER NONE)

-- "Both sides of a comparison have one type": the operator behind what was read; a bare word is a test or a string
unfoldable pub operator : ℕ → ℕ → ℕ
operator sort k =
    pick (eqb sort INTEGER) (number_operator k)
    (pick (eqb sort TEXT) (text_operator k)
    (pick (eqb sort FLOAT) (float_operator k)
    (pick (eqb (test_operator k) NONE) (pick (eqb sort TEST) NONE (text_operator k)) (test_operator k))))

-- the operator before an operand
unfoldable pub prefix_operator : ℕ → ℕ
prefix_operator k =
    pick (eqb k Kind.MINUS) Op.NEGATE
    (pick (eqb k Kind.AT) Op.CONVERT
    (pick (eqb k Kind.DOLLAR) Op.LOOKUP
    (pick (eqb k Kind.NOT) Op.OPPOSITE
    (pick (eqb k Kind.AMPERSAND) Op.TO_FLOAT NONE))))

-- "! above && above || (house), a comparison inside", "then ^, then * / %, then + -": 0 || 1 && 2 comparisons 3 + - . 4 * / % 5 ^
unfoldable pub level_above : ℕ → ℕ
level_above op =
    pick (ltb op Op.FLOAT_POWER) 2
    (pick (ltb Op.FLOAT_MINUS op) (pick (ltb op Op.BOTH) 2 (pick (eqb op Op.BOTH) 1 0))
    (pick (ltb Op.FLOAT_OVER op) 3 (pick (eqb op Op.FLOAT_POWER) 5 4)))

unfoldable pub level_of : ℕ → ℕ
level_of op = pick (ltb Op.MINUS op) (level_above op) (pick (ltb Op.REMAINDER op) 3 (pick (eqb op Op.POWER) 5 (pick (eqb op Op.JOIN) 3 4)))

-- the sort of an operator's operands
unfoldable pub operand_above : ℕ → ℕ
operand_above op = pick (ltb Op.MATCHES op) (pick (ltb Op.AT_LEAST op) (pick (ltb op Op.BOTH) FLOAT TEST) INTEGER) TEXT

unfoldable pub operand_of : ℕ → ℕ
operand_of op =
    pick (ltb Op.JOIN op) (pick (ltb Op.MINUS op) (operand_above op) INTEGER)
    (pick (eqb op Op.NEGATE) INTEGER (pick (eqb op Op.OPPOSITE) TEST (pick (eqb op Op.FLOAT_NEGATE) FLOAT TEXT)))

-- the sort of what it gives
unfoldable pub result_above : ℕ → ℕ
result_above op = pick (ltb Op.AT_LEAST op) (pick (ltb Op.FLOAT_MINUS op) TEST FLOAT) TEST

unfoldable pub result_of : ℕ → ℕ
result_of op =
    pick (ltb Op.JOIN op) (pick (ltb Op.MINUS op) (result_above op) INTEGER)
    (pick (eqb op Op.OPPOSITE) TEST (pick (eqb op Op.LOOKUP) TEXT (pick (eqb op Op.JOIN) TEXT (pick (ltb Op.OPPOSITE op) FLOAT INTEGER))))

-- "!" takes a comparison; "@ and $ bind as unary -", which takes no operator between operands
unfoldable pub operand_level : ℕ → ℕ
operand_level op = pick (eqb op Op.OPPOSITE) 2 6

-- what is wanted behind a prefix operator
unfoldable pub operand_want : ℕ → ℕ → ℕ
operand_want op want = pick (eqb op Op.OPPOSITE) ANY (pick (eqb op Op.NEGATE) (pick (eqb want ANY) NUMBER want) (pick (eqb op Op.FLOAT_NEGATE) FLOAT TEXT))

-- what is wanted to the right of an operator: what it takes has one number, wanted or read
unfoldable pub right_want : ℕ → ℕ
right_want op = operand_of op

-- unary "-" is that of what stands behind it
unfoldable pub prefix_of : ℕ → ℕ → ℕ
prefix_of op sort = pick (eqb op Op.NEGATE) (pick (eqb sort FLOAT) Op.FLOAT_NEGATE op) op

-- "left to right in a class": the right operand reaches to the next operator of the same level
unfoldable pub right_level : ℕ → ℕ
right_level op = level_of op + 1

-- does the operator belong to this level or one above?
unfoldable pub binds : ℕ → ℕ → Bool
binds level op = pick (eqb op NONE) false (pick (ltb (level_of op) level) false true)

-- the number that the code holds for what a token writes
abbrev pub infix_number : Infix → ℕ
infix_number no-infix = NONE
infix_number (between op) = binary_number op

abbrev pub prefix_number : Prefix → ℕ
prefix_number no-prefix = NONE
prefix_number (before op) = unary_number op
