use Rattle.system.specs.Working.Asking.{mark-past}
use Rattle.system.proofs.asked.mark.Goals as goal

pub returns-then-direct-i : goal.returns-then-direct-i
returns-then-direct-i c = search mark-past
