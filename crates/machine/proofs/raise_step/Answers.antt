use Rattle.machine.specs.Working.Stepping.{binary-none}
use Rattle.machine.specs.Working.Quick.{raise-quick}
use Rattle.machine.proofs.raise_step.Goals as goal

pub returns-then-n-lt4 : goal.returns-then-n-lt4
returns-then-n-lt4 c = search binary-none

pub returns-then-stack-n-eq5-2 : goal.returns-then-stack-n-eq5-2
returns-then-stack-n-eq5-2 c = search raise-quick
