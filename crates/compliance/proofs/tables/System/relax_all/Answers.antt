use Rattle.std.proofs.Common.{rules}
use Rattle.compliance.specs.Working.RoundWays.{relax-start, relax-more, relax-end}
use Rattle.compliance.proofs.tables.System.relax_all.Goals as goal

pub loop-j-init : goal.loop-j-init
loop-j-init c = (search rules, search relax-start)

pub loop-j-preserved : goal.loop-j-preserved
loop-j-preserved c = (search rules, search relax-more)

pub returns : goal.returns
returns c = search relax-end
