use Rattle.std.proofs.Common.{rules}
use Rattle.compliance.specs.Working.Reach.{open-start, open_none, open-here, open-later}
use Rattle.compliance.proofs.tables.System.first_open.Goals as goal

pub loop-j-init : goal.loop-j-init
loop-j-init c = search open-start

pub returns-then-is_open : goal.returns-then-is_open
returns-then-is_open c = (search open-here, search rules)

pub loop-j-preserved : goal.loop-j-preserved
loop-j-preserved c = search open-later

pub returns : goal.returns
returns c = search open_none
