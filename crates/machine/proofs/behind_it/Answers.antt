use Rattle.machine.specs.Working.Passing.{behind-low, behind-here, behind-known}
use Rattle.machine.proofs.behind_it.Goals as goal

pub returns-then-op-le-FLOAT_NEGATE : goal.returns-then-op-le-FLOAT_NEGATE
returns-then-op-le-FLOAT_NEGATE c = search behind-low

pub returns-then-k-eq1 : goal.returns-then-k-eq1
returns-then-k-eq1 c = search behind-here

pub returns : goal.returns
returns c = search behind-known
