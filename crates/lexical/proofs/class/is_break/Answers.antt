use Rattle.std.proofs.Common.{arith}
use Rattle.text.specs.Choice.{tests}
use Rattle.lexical.proofs.ClassWays.{by-break}
use Rattle.lexical.proofs.class.is_break.Goals as goal

pub returns-then-b-gt35 : goal.returns-then-b-gt35
returns-then-b-gt35 c = by-break _ c.ranges.b.fits _ (grind (arith, tests))
