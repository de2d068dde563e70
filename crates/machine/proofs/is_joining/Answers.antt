use Rattle.machine.specs.Working.Joining.{joining-other, joining-first, joining-second}
use Rattle.machine.proofs.is_joining.Goals as goal

pub returns-then-op-ne-JOIN : goal.returns-then-op-ne-JOIN
returns-then-op-ne-JOIN c = search joining-other

pub returns-then-x-ne0 : goal.returns-then-x-ne0
returns-then-x-ne0 c = search joining-first

pub returns : goal.returns
returns c = search joining-second
