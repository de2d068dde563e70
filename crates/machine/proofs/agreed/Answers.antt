use Rattle.machine.specs.Working.Alike.{agree-equal, agree_same, agree-other}
use Rattle.machine.proofs.agreed.Goals as goal

pub returns-then-op-eq-TEXT_EQUAL : goal.returns-then-op-eq-TEXT_EQUAL
returns-then-op-eq-TEXT_EQUAL c = search agree-equal

pub returns-then-same : goal.returns-then-same
returns-then-same c = search agree_same

pub returns : goal.returns
returns c = search agree-other
