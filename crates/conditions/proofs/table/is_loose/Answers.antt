use Rattle.conditions.proofs.TableWays.{loose_none, loose-level}
use Rattle.conditions.proofs.table.is_loose.Goals as goal

pub returns-then-op-eq-NONE : goal.returns-then-op-eq-NONE
returns-then-op-eq-NONE c = search loose_none

pub returns : goal.returns
returns c = search loose-level
