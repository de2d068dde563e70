-- The runs of bytes that are scanned over. Assumes nothing.
use Rattle.std.specs.Prelude.{Bool, false, not, ℕ, eqb}
use Rattle.text.specs.Choice.{pick}
use Rattle.lexical.specs.Class.{class_of, or, BLANK, NEWLINE, LETTER, DIGIT, NUL}
use Rattle.lexical.specs.declared.scan.Run.{Run}
use Rattle.lexical.specs.declared.scan.Run.TheVariants.{Blanks, White, Free, Word, Numerals}

-- spaces and tabs
abbrev pub BLANKS : Run
BLANKS = Blanks

-- "Whitespace is space, tab, newline"
abbrev pub WHITE : Run
WHITE = White

-- the rest of a line that is hidden or free text: all but newline and NUL
abbrev pub FREE : Run
FREE = Free

-- letters, digits and underscores
abbrev pub WORD : Run
WORD = Word

-- "digits"
abbrev pub NUMERALS : Run
NUMERALS = Numerals

-- the run of a number: 0 to 3 in this order, digits from 4 on
abbrev pub numbered : ℕ → Run
numbered k = pick (eqb k 0) BLANKS (pick (eqb k 1) WHITE (pick (eqb k 2) FREE (pick (eqb k 3) WORD NUMERALS)))

-- does a class belong to the run k?
unfoldable pub has_class : Run → ℕ → Bool
has_class Blanks c = eqb c BLANK
has_class White c = or (eqb c BLANK) (eqb c NEWLINE)
has_class Free c = pick (eqb c NEWLINE) false (not (eqb c NUL))
has_class Word c = or (eqb c LETTER) (eqb c DIGIT)
has_class Numerals c = eqb c DIGIT

-- does a byte?
unfoldable pub in_run : Run → ℕ → Bool
in_run k b = has_class k (class_of b)
