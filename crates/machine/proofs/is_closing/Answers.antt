use Rattle.machine.specs.Working.Ending.{closing-none, closing-nested}
use Rattle.machine.proofs.is_closing.Goals as goal

pub returns-then-op-ne-NESTED : goal.returns-then-op-ne-NESTED
returns-then-op-ne-NESTED c = search closing-none

pub returns : goal.returns
returns c = search closing-nested
