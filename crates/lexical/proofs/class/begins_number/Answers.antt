use Rattle.std.proofs.Common.{arith}
use Rattle.text.specs.Choice.{tests}
use Rattle.lexical.specs.Working.Runs.{numeral}
use Rattle.lexical.proofs.ClassWays.{by-numeral}
use Rattle.lexical.proofs.class.begins_number.Goals as goal

pub returns : goal.returns
unfolding numeral
returns c = by-numeral _ c.ranges.b.fits _ (grind (arith, tests))
