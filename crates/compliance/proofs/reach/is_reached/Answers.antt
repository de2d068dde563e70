use Rattle.compliance.specs.Working.Reach.{reached-at, reached-past}
use Rattle.compliance.proofs.reach.is_reached.Goals as goal

pub returns-then-i-n : goal.returns-then-i-n
returns-then-i-n c = search reached-at

pub returns-else-i-n : goal.returns-else-i-n
returns-else-i-n c = search reached-past
