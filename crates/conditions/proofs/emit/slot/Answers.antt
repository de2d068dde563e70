use Rattle.conditions.proofs.EmitWays.{slot-far, slot-no, slot-made}
use Rattle.conditions.proofs.emit.slot.Goals as goal

pub returns-then-at-ge65536 : goal.returns-then-at-ge65536
returns-then-at-ge65536 c = search slot-far

pub returns-then-op-ge64 : goal.returns-then-op-ge64
returns-then-op-ge64 c = search slot-no

pub returns : goal.returns
returns c = search slot-made
