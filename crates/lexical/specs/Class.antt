-- The class of a byte. Assumes nothing.
use Rattle.std.specs.Prelude.{Bool, true, false, ℕ, eqb, leb}
use Rattle.text.specs.Choice.{pick}
use Rattle.lexical.specs.Kind

-- the first test or the second
abbrev pub or : Bool → Bool → Bool
or a b = pick a true b

-- a byte from lo to hi
abbrev pub within : ℕ → ℕ → ℕ → Bool
within lo hi b = pick (leb lo b) (leb b hi) false

-- any byte that starts no token and has no class of its own
abbrev pub OTHER : ℕ
OTHER = 0

-- "Whitespace is space, tab, newline": the two that stay on a line
abbrev pub BLANK : ℕ
BLANK = 1

-- the byte that ends a line
abbrev pub NEWLINE : ℕ
NEWLINE = 2

-- a letter or the underscore
abbrev pub LETTER : ℕ
LETTER = 3

-- "digits"
abbrev pub DIGIT : ℕ
DIGIT = 4

-- what opens and closes a literal
abbrev pub QUOTE : ℕ
QUOTE = 5

-- "#"
abbrev pub HASH : ℕ
HASH = 6

-- "a byte 0"
abbrev pub NUL : ℕ
NUL = 7

-- "|", which is no token but begins one, as does "~"
abbrev pub BAR : ℕ
BAR = 8

-- "~"
abbrev pub TILDE : ℕ
TILDE = 9

-- an operator of one byte: its class is its token's kind; any byte else is of class OTHER
abbrev pub mark_of : ℕ → ℕ
mark_of b =
    pick (eqb b 40) Kind.OPEN
    (pick (eqb b 41) Kind.CLOSE
    (pick (eqb b 123) Kind.OPEN_BRACE
    (pick (eqb b 125) Kind.CLOSE_BRACE
    (pick (eqb b 44) Kind.COMMA
    (pick (eqb b 59) Kind.SEMICOLON
    (pick (eqb b 61) Kind.ASSIGN
    (pick (eqb b 33) Kind.NOT
    (pick (eqb b 60) Kind.LESS
    (pick (eqb b 62) Kind.GREATER
    (pick (eqb b 46) Kind.DOT
    (pick (eqb b 36) Kind.DOLLAR
    (pick (eqb b 64) Kind.AT
    (pick (eqb b 38) Kind.AMPERSAND
    (pick (eqb b 43) Kind.PLUS
    (pick (eqb b 45) Kind.MINUS
    (pick (eqb b 42) Kind.TIMES
    (pick (eqb b 47) Kind.DIVIDE
    (pick (eqb b 37) Kind.REMAINDER
    (pick (eqb b 94) Kind.POWER OTHER)))))))))))))))))))

-- "The class of each of the 256 byte values"
unfoldable pub class_of : ℕ → ℕ
class_of b =
    pick (or (eqb b 32) (eqb b 9)) BLANK
    (pick (eqb b 10) NEWLINE
    (pick (or (within 97 122 b) (or (within 65 90 b) (eqb b 95))) LETTER
    (pick (within 48 57 b) DIGIT
    (pick (eqb b 34) QUOTE
    (pick (eqb b 35) HASH
    (pick (eqb b 0) NUL
    (pick (eqb b 124) BAR
    (pick (eqb b 126) TILDE (mark_of b)))))))))
