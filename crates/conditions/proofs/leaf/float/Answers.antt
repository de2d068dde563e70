use Rattle.conditions.proofs.LeafWays.{float-made, float-wide}
use Rattle.conditions.proofs.leaf.float.Goals as goal

pub returns-then-is_wide : goal.returns-then-is_wide
returns-then-is_wide c = search float-wide

pub returns : goal.returns
returns c = search float-made
