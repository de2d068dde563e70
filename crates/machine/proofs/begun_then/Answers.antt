use Rattle.machine.specs.Working.Ending.{begun_more, begun-same, begun-none, begun-fewer}
use Rattle.machine.proofs.begun_then.Goals as goal

pub returns-then-op-eq-BEGIN : goal.returns-then-op-eq-BEGIN
returns-then-op-eq-BEGIN c = search begun_more

pub returns-then-op-ne-NESTED : goal.returns-then-op-ne-NESTED
returns-then-op-ne-NESTED c = search begun-same

pub returns-then-k-eq0 : goal.returns-then-k-eq0
returns-then-k-eq0 c = search begun-none

pub returns : goal.returns
returns c = search begun-fewer
