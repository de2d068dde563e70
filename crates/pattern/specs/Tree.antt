-- What a pattern is, as a tree. Assumes nothing.
use Rattle.std.specs.Prelude.{ℕ}
use Rattle.pattern.specs.Class.{Class}

-- `one at c`: a byte of class c; `at` is where in the pattern it is written
pub data Re : Type 0 where
  bol : Re
  eol : Re
  one : (at : ℕ) → Class → Re
  cat : Re → Re → Re
  alt : Re → Re → Re
  star : Re → Re
  plus : Re → Re
  opt : Re → Re
