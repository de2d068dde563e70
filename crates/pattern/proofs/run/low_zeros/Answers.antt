use Rattle.std.proofs.Common.{rules}
use Rattle.text.specs.Choice.{tests}
use Rattle.pattern.specs.Working.Sim.{low_zeros}
use Rattle.pattern.proofs.run.low_zeros.Goals as goal

pub returns-then-n-lt64-clause-value : goal.returns-then-n-lt64-clause-value
unfolding low_zeros
returns-then-n-lt64-clause-value c = search (rules, tests)

pub returns-else-n-lt64-clause-value : goal.returns-else-n-lt64-clause-value
unfolding low_zeros
returns-else-n-lt64-clause-value c = search (rules, tests)
