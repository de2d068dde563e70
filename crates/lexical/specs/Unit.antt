-- One unit of a literal: a byte, an escape, a line continuation, the closing quote. Assumes nothing.
use Rattle.std.specs.Prelude.{Bool, List, ℕ, ◌+◌, ◌-◌, ◌*◌, eqb, leb, ltb, length, get_or}
use Rattle.text.specs.Choice.{pick}
use Rattle.text.specs.Scan.{past}
use Rattle.lexical.specs.Class.{or, within}
use Rattle.lexical.specs.Run.{in_run, WHITE}
use Rattle.lexical.specs.declared.unit.Unit.{Unit}
use Rattle.lexical.specs.declared.unit.Unit.TheVariants.{Drops, Gives, Closes, Spoils}

-- gives no byte
abbrev pub DROPS : ℕ
DROPS = 0

-- gives one byte
abbrev pub GIVES : ℕ
GIVES = 1

-- the closing quote
abbrev pub CLOSES : ℕ
CLOSES = 2

-- "illegal": no literal can hold it
abbrev pub SPOILS : ℕ
SPOILS = 3

-- w bytes that give the byte b
abbrev pub gives : ℕ → ℕ → Unit
gives w b = Gives w b

-- w bytes that give none
abbrev pub drops : ℕ → Unit
drops w = Drops w

-- the closing quote
abbrev pub closes : Unit
closes = Closes

-- what no literal can hold
abbrev pub spoils : Unit
spoils = Spoils

-- what a unit does
abbrev pub kind : Unit → ℕ
kind (Drops w) = DROPS
kind (Gives w b) = GIVES
kind Closes = CLOSES
kind Spoils = SPOILS

-- how many bytes it takes
abbrev pub width : Unit → ℕ
width (Drops w) = w
width (Gives w b) = w
width Closes = 1
width Spoils = 0

-- the byte that it gives; 0 for one that gives none
abbrev pub byte : Unit → ℕ
byte (Drops w) = 0
byte (Gives w b) = b
byte Closes = 0
byte Spoils = 0

-- an octal digit
unfoldable pub octal : ℕ → Bool
octal b = within 48 55 b

-- "\n \r \t \f", or 0
unfoldable pub control : ℕ → ℕ
control b = pick (eqb b 110) 10 (pick (eqb b 114) 13 (pick (eqb b 116) 9 (pick (eqb b 102) 12 0)))

-- "any other backslash vanishes"
abbrev pub bare : ℕ → Unit
bare b = gives 2 b

-- an octal escape of value v and width w that starts with the digit b: "\0, \00, \000 give "0", "00", "000"", "Above \377 no token"
unfoldable pub coded : ℕ → ℕ → ℕ → Unit
coded v w b = pick (eqb v 0) (bare b) (pick (ltb 255 v) spoils (gives w v))

-- ""\0" with one or two more octal digits, or three octal digits starting 1 to 7, longest reading, give that byte"; b is an octal digit
unfoldable pub octal_unit : ℕ → ℕ → ℕ → Unit
octal_unit b c d =
    pick (octal c)
    (pick (octal d) (coded ((b - 48) * 64 + (c - 48) * 8 + (d - 48)) 4 b)
    (pick (eqb b 48) (coded (c - 48) 3 b) (bare b)))
    (bare b)

-- a backslash before b, c, d, where b is no newline; "a byte 0 anywhere, is illegal"
unfoldable pub escape_unit : ℕ → ℕ → ℕ → Unit
escape_unit b c d =
    pick (eqb b 0) spoils
    (pick (eqb (control b) 0) (pick (octal b) (octal_unit b c d) (bare b)) (gives 2 (control b)))

-- "An unescaped newline or return, or a byte 0 anywhere, is illegal."
unfoldable pub barred : ℕ → Bool
barred b = or (eqb b 0) (or (eqb b 10) (eqb b 13))

-- the unit at i: 34 is the quote, 92 the backslash; "backslash-newline drops whitespace up to the next other character"
unfoldable pub unit_at : List ℕ → ℕ → Unit
unit_at s i =
    pick (leb (length s) i) spoils
    (pick (eqb (get_or s i 0) 34) closes
    (pick (eqb (get_or s i 0) 92)
    (pick (eqb (get_or s (i + 1) 0) 10) (drops (past (in_run WHITE) s (i + 2) - i))
    (escape_unit (get_or s (i + 1) 0) (get_or s (i + 2) 0) (get_or s (i + 3) 0)))
    (pick (barred (get_or s i 0)) spoils (gives 1 (get_or s i 0)))))
