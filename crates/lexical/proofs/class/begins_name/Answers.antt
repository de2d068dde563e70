use Rattle.std.proofs.Common.{arith}
use Rattle.text.specs.Choice.{tests}
use Rattle.lexical.specs.Working.Runs.{letter}
use Rattle.lexical.proofs.ClassWays.{by-letter}
use Rattle.lexical.proofs.class.begins_name.Goals as goal

pub returns-then-b-lt65 : goal.returns-then-b-lt65
unfolding letter
returns-then-b-lt65 c = by-letter _ c.ranges.b.fits _ (grind (arith, tests))

pub returns-then-b-ge97 : goal.returns-then-b-ge97
unfolding letter
returns-then-b-ge97 c = by-letter _ c.ranges.b.fits _ (grind (arith, tests))

pub returns-then-b-le90 : goal.returns-then-b-le90
unfolding letter
returns-then-b-le90 c = by-letter _ c.ranges.b.fits _ (grind (arith, tests))

pub returns-else-b-le90 : goal.returns-else-b-le90
unfolding letter
returns-else-b-le90 c = by-letter _ c.ranges.b.fits _ (grind (arith, tests))
