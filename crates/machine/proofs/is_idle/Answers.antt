use Rattle.machine.specs.Working.Running.{idle-few, idle-false, idle-other}
use Rattle.machine.proofs.is_idle.Goals as goal

pub returns-then-n-lt4 : goal.returns-then-n-lt4
returns-then-n-lt4 c = search idle-few

pub returns-then-stack-n-eq3 : goal.returns-then-stack-n-eq3
returns-then-stack-n-eq3 c = search idle-false

pub returns : goal.returns
returns c = search idle-other
