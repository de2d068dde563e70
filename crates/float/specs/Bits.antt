-- A float as its 32 bits. Assumes nothing.
use Rattle.std.specs.Prelude.{ℕ, ltb, Float}
use Rattle.std.specs.Float.{nan, binary32}
use Rattle.std.specs.Float.Ieee.{of_bits}
use Rattle.text.specs.Choice.{pick}

-- the float of a number; what has more bits is none
unfoldable pub float_at : ℕ → Float
float_at n = pick (ltb n 4294967296) (of_bits binary32 n) nan
