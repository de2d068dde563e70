use Rattle.std.proofs.Common.{rules}
use Rattle.compliance.specs.Working.Rising.{blank-long, rising-start, settle-start, settle-end, settle-on, settle-stop, settle-more}
use Rattle.compliance.proofs.tables.System.settle_on.Goals as goal

pub loop-n-init : goal.loop-n-init
loop-n-init c = (search blank-long, search rules, search rising-start, search settle-start)

pub returns-then-adopt : goal.returns-then-adopt
returns-then-adopt c = search settle-stop

pub loop-n-preserved : goal.loop-n-preserved
loop-n-preserved c = (search rules, search rules, search settle-on, search settle-more)

pub returns : goal.returns
returns c = search settle-end
