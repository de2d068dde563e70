use Rattle.compliance.specs.Working.RoundWays.{direct-top, direct-none, direct-out}
use Rattle.compliance.proofs.tables.System.direct_rank.Goals.{else-is_set-via-then-is_set+else-item_or-eq1, else-is_set-via-else-is_set}
use Rattle.compliance.proofs.tables.System.direct_rank.Goals as goal

pub returns-then-item_or-eq1 : goal.returns-then-item_or-eq1
returns-then-item_or-eq1 c = search direct-top

pub returns-else-is_set : goal.returns-else-is_set
returns-else-is_set c = elim c.else-is_set.branch [
  | else-is_set-via-then-is_set+else-item_or-eq1 w ↦ search direct-none
  | else-is_set-via-else-is_set w ↦ search direct-out
]
