use Rattle.float.specs.Working.Computing.{power-start, power-hit, power-on, power-none}
use Rattle.float.proofs.operation.raise_to.Goals as goal

pub loop-n-init : goal.loop-n-init
loop-n-init c = search power-start

pub returns-then-n-y : goal.returns-then-n-y
returns-then-n-y c = search power-hit

pub loop-n-preserved : goal.loop-n-preserved
loop-n-preserved c = search power-on

pub returns : goal.returns
returns c = search power-none
