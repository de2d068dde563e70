use Rattle.std.proofs.Common.{arith}
use Rattle.text.specs.Choice.{tests}
use Rattle.lexical.specs.Working.Runs.{blank}
use Rattle.lexical.proofs.ClassWays.{by-blank}
use Rattle.lexical.proofs.class.is_indent.Goals as goal

pub returns-then-b-gt32 : goal.returns-then-b-gt32
unfolding blank
returns-then-b-gt32 c = by-blank _ c.ranges.b.fits _ (grind (arith, tests))

pub returns-then-b-eq32 : goal.returns-then-b-eq32
unfolding blank
returns-then-b-eq32 c = by-blank _ c.ranges.b.fits _ (grind (arith, tests))

pub returns : goal.returns
unfolding blank
returns c = by-blank _ c.ranges.b.fits _ (grind (arith, tests))
