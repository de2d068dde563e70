-- The number that digits write. Assumes nothing.
use Rattle.std.specs.Prelude.{List, ℕ}
use Rattle.std.proofs.Math.Seq.{slice}
use Rattle.text.specs.Digits.{value}

-- one above the largest integer literal: "integer literal above 2147483647"
abbrev pub LIMIT : ℕ
LIMIT = 2147483648

-- the number that the digits from start to end write
unfoldable pub number_at : List ℕ → ℕ → ℕ → ℕ
number_at s start end = value (slice start end s)
