use Rattle.std.proofs.Common.{rules}
use Rattle.principal.specs.Working.Tagging.{groups-end, groups-step}
use Rattle.principal.proofs.mix_groups.Goals as goal

pub loop-j-preserved : goal.loop-j-preserved
loop-j-preserved c = (search groups-step, search rules)

pub returns-clause-value : goal.returns-clause-value
returns-clause-value c = search groups-end
