use Rattle.compliance.specs.Working.RoundWays.{relax-in, relax-idle, relax-out}
use Rattle.compliance.proofs.tables.System.relax.Goals.{else-is_set-via-then-is_set+else-item_or, else-is_set-via-else-is_set}
use Rattle.compliance.proofs.tables.System.relax.Goals as goal

pub returns-then-item_or : goal.returns-then-item_or
returns-then-item_or c = search relax-in

pub returns-else-is_set : goal.returns-else-is_set
returns-else-is_set c = elim c.else-is_set.branch [
  | else-is_set-via-then-is_set+else-item_or w ↦ search relax-idle
  | else-is_set-via-else-is_set w ↦ search relax-out
]
