use Rattle.machine.specs.Working.Stepping.{binary-none, binary-two}
use Rattle.machine.proofs.binary_step.Goals as goal

pub returns-then-n-lt4 : goal.returns-then-n-lt4
returns-then-n-lt4 c = search binary-none

pub returns : goal.returns
returns c = search binary-two
