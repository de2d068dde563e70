use Rattle.compliance.specs.Working.RoundWays.{table-start, table_more, table-end}
use Rattle.compliance.proofs.tables.System.set_direct.Goals as goal

pub loop-i-init : goal.loop-i-init
loop-i-init c = search table-start

pub loop-i-preserved : goal.loop-i-preserved
loop-i-preserved c = search table_more

pub returns : goal.returns
returns c = search table-end
