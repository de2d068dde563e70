use Rattle.machine.specs.Working.Passing.{stop-other, stop-known, stop-here}
use Rattle.machine.proofs.stop_at.Goals as goal

pub returns-then-op-ne-VALUED : goal.returns-then-op-ne-VALUED
returns-then-op-ne-VALUED c = search stop-other

pub returns-then-k-ne1 : goal.returns-then-k-ne1
returns-then-k-ne1 c = search stop-known

pub returns : goal.returns
returns c = search stop-here
