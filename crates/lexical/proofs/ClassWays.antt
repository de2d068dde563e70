-- The bytes of classes by comparisons. Assumes nothing.
use Rattle.std.specs.Prelude.{◌≡◌, Bool, ℕ, ◌<◌, eqb}
use Rattle.std.proofs.Common.{◌∙◌}
use Rattle.lexical.specs.Class.{class_of, or, BLANK, NEWLINE, LETTER, DIGIT, HASH}
use Rattle.lexical.specs.Working.Runs.{blank, letter, numeral, blank-class, letter-class, numeral-class, newline-class, quote-class, hash-class, nul-class}
use Rattle.lexical.specs.Theorems.Classes.{class-rule}

pub ruleset table = (class-rule)

pub ruleset classes = (newline-class, quote-class, hash-class)

pub ruleset runs = (newline-class, nul-class)

-- a test by comparisons is the test of the class
module _ (b : ℕ) (h : b < 256) (r : Bool) where
  pub by-blank : r ≡ blank b → r ≡ eqb (class_of b) BLANK
  by-blank e = e ∙ blank-class b h

  pub by-letter : r ≡ letter b → r ≡ eqb (class_of b) LETTER
  by-letter e = e ∙ letter-class b h

  pub by-numeral : r ≡ numeral b → r ≡ eqb (class_of b) DIGIT
  by-numeral e = e ∙ numeral-class b h

  pub by-break : r ≡ or (eqb b 10) (eqb b 35) → r ≡ or (eqb (class_of b) NEWLINE) (eqb (class_of b) HASH)
  by-break e = rw (← newline-class b h, ← hash-class b h) e
