-- Classes of bytes that a front of a string is made of. Assumes nothing.
use Rattle.std.specs.Prelude.{Bool, true, false, not, ℕ, eqb, leb}
use Rattle.text.specs.Choice.{pick}
use Rattle.text.specs.declared.Class.{Class}
use Rattle.text.specs.declared.Class.TheVariants.{Plain, Digit, Word}

-- the decimal digits
unfoldable pub is_digit : ℕ → Bool
is_digit b = pick (leb 48 b) (leb b 57) false

-- "letters and digits of ASCII"
unfoldable pub is_letter : ℕ → Bool
is_letter b = pick (leb 97 b) (leb b 122) (pick (leb 65 b) (leb b 90) false)

-- "letters, digits and underscores"
unfoldable pub is_word : ℕ → Bool
is_word b = pick (is_letter b) true (pick (is_digit b) true (eqb b 95))

-- "any byte but 0"
unfoldable pub is_plain : ℕ → Bool
is_plain b = not (eqb b 0)

-- the classes
abbrev pub plain : Class
plain = Plain

abbrev pub digit : Class
digit = Digit

abbrev pub word : Class
word = Word

-- the class of a number: 0 plain, 1 digits, words from 2 on
abbrev pub numbered : ℕ → Class
numbered k = pick (eqb k 0) Plain (pick (eqb k 1) Digit Word)

unfoldable pub in_class : Class → ℕ → Bool
in_class Plain b = is_plain b
in_class Digit b = is_digit b
in_class Word b = is_word b
