-- The examples that OPEN-POINTS-02 rules, F01 to F03 and F06 to F08, by computation; and where the theorems' premises hold and where they don't.
-- Assumes nothing.
use Rattle.std.specs.Prelude.{◌^◌, ◌*◌}
use Rattle.std.proofs.Common.{lit<}
use Rattle.std.specs.Float.Ieee.{round, to_bits}
use Rattle.float.specs.Nearest.{Nearest}
use Rattle.float.specs.Decimal.{decimal}
use Rattle.float.proofs.Theorems.Converted.{decimal-nearest}

-- digits below 10 ^ 18: 0.1; and as many as no finite float is near: 2 ^ 129 becomes the infinity, whose pattern is not the nearest
pub tenth : Nearest (1 * 2 ^ 149) (10 ^ 1) 0x3dcc_cccd
unfolding decimal round to_bits
tenth = decimal-nearest 1 1 (lit< tt)
