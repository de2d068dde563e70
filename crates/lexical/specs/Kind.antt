-- The kinds of token, and where in a text a token is looked for. Assumes nothing.
use Rattle.std.specs.Prelude.{Bool, true, false, ℕ, eqb, ltb, leb}
use Rattle.text.specs.Choice.{pick}

-- "the end of text is a token at the text's length"
abbrev pub END : ℕ
END = 0

-- reason 1: "no token can be formed"
abbrev pub ILLEGAL : ℕ
ILLEGAL = 1

-- a further line begins: what is found between two lines, and no token
abbrev pub NEXT : ℕ
NEXT = 2

-- reason 3: a blank line, "text before the first label", "a line that begins otherwise"
abbrev pub BAD_LINE : ℕ
BAD_LINE = 3

-- KeyNote-Version: (a label is taken with its colon)
abbrev pub KEYNOTE_VERSION : ℕ
KEYNOTE_VERSION = 4

-- Local-Constants:
abbrev pub LOCAL_CONSTANTS : ℕ
LOCAL_CONSTANTS = 5

-- Authorizer:
abbrev pub AUTHORIZER : ℕ
AUTHORIZER = 6

-- Licensees:
abbrev pub LICENSEES : ℕ
LICENSEES = 7

-- Conditions:
abbrev pub CONDITIONS : ℕ
CONDITIONS = 8

-- Comment:
abbrev pub COMMENT : ℕ
COMMENT = 9

-- Signature:
abbrev pub SIGNATURE : ℕ
SIGNATURE = 10

-- a literal with its quotes
abbrev pub LITERAL : ℕ
LITERAL = 11

-- a name: a letter or underscore, then letters, digits and underscores
abbrev pub NAME : ℕ
NAME = 12

-- digits
abbrev pub DIGITS : ℕ
DIGITS = 13

-- "float literal (digits "." digits)"
abbrev pub FLOAT : ℕ
FLOAT = 14

-- "in Licensees "-of""
abbrev pub OF : ℕ
OF = 15

-- ->
abbrev pub ARROW : ℕ
ARROW = 16

-- &&
abbrev pub AND : ℕ
AND = 17

-- ||
abbrev pub OR : ℕ
OR = 18

-- ==
abbrev pub EQUAL : ℕ
EQUAL = 19

-- !=
abbrev pub UNEQUAL : ℕ
UNEQUAL = 20

-- <=
abbrev pub AT_MOST : ℕ
AT_MOST = 21

-- >=
abbrev pub AT_LEAST : ℕ
AT_LEAST = 22

-- ~=
abbrev pub MATCHES : ℕ
MATCHES = 23

-- (
abbrev pub OPEN : ℕ
OPEN = 24

-- )
abbrev pub CLOSE : ℕ
CLOSE = 25

-- {
abbrev pub OPEN_BRACE : ℕ
OPEN_BRACE = 26

-- }
abbrev pub CLOSE_BRACE : ℕ
CLOSE_BRACE = 27

-- ,
abbrev pub COMMA : ℕ
COMMA = 28

-- ;
abbrev pub SEMICOLON : ℕ
SEMICOLON = 29

-- =
abbrev pub ASSIGN : ℕ
ASSIGN = 30

-- !
abbrev pub NOT : ℕ
NOT = 31

-- <
abbrev pub LESS : ℕ
LESS = 32

-- >
abbrev pub GREATER : ℕ
GREATER = 33

-- .
abbrev pub DOT : ℕ
DOT = 34

-- $
abbrev pub DOLLAR : ℕ
DOLLAR = 35

-- @
abbrev pub AT : ℕ
AT = 36

-- &
abbrev pub AMPERSAND : ℕ
AMPERSAND = 37

-- +
abbrev pub PLUS : ℕ
PLUS = 38

-- -
abbrev pub MINUS : ℕ
MINUS = 39

-- *
abbrev pub TIMES : ℕ
TIMES = 40

-- /
abbrev pub DIVIDE : ℕ
DIVIDE = 41

-- %
abbrev pub REMAINDER : ℕ
REMAINDER = 42

-- ^
abbrev pub POWER : ℕ
POWER = 43

-- before the first label
abbrev pub BEFORE : ℕ
BEFORE = 0

-- in Licensees, which has "-of"
abbrev pub IN_LICENSEES : ℕ
IN_LICENSEES = 1

-- in Comment, which "is free text without tokens"
abbrev pub IN_COMMENT : ℕ
IN_COMMENT = 2

-- in any other field
abbrev pub IN_FIELD : ℕ
IN_FIELD = 3

-- where the text goes on behind a label of this kind
unfoldable pub opened : ℕ → ℕ
opened kind = pick (eqb kind LICENSEES) IN_LICENSEES (pick (eqb kind COMMENT) IN_COMMENT IN_FIELD)

-- where it goes on behind any token
unfoldable pub mode_after : ℕ → ℕ → ℕ
mode_after mode kind = pick (ltb kind KEYNOTE_VERSION) mode (pick (ltb SIGNATURE kind) mode (opened kind))

-- does a token of this kind end a field? "a label [..] (it ends the field before)"; "the end of text is a token"
unfoldable pub ending : ℕ → Bool
ending kind = pick (eqb kind END) true (pick (ltb kind KEYNOTE_VERSION) false (leb kind SIGNATURE))
