-- "digits as one integer over a power of ten". Assumes nothing.
use Rattle.std.specs.Prelude.{Bool, ℕ, ◌^◌, Float}
use Rattle.std.specs.Float.{binary32}
use Rattle.std.specs.Float.Ieee.{round}

-- the language's own rounding of the fraction, once; `Theorems.Converted` says in whole numbers what it gives
unfoldable pub decimal : Bool → ℕ → ℕ → Float
decimal s digits scale = round binary32 s digits (10 ^ scale)
