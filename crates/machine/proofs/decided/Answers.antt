use Rattle.machine.specs.Working.Quick.{both-second, both_false, either_true, either_second}
use Rattle.machine.proofs.decided.Goals as goal

pub returns-then-x : goal.returns-then-x
returns-then-x c = search both-second

pub returns-then-op-eq-BOTH : goal.returns-then-op-eq-BOTH
returns-then-op-eq-BOTH c = search both_false

pub returns-then-x-2 : goal.returns-then-x-2
returns-then-x-2 c = search either_true

pub returns : goal.returns
returns c = search either_second
