use Rattle.conditions.proofs.LeafWays.{literal-made, literal-long}
use Rattle.conditions.proofs.leaf.literal.Goals as goal

pub returns-then-is_short : goal.returns-then-is_short
returns-then-is_short c = search literal-made

pub returns : goal.returns
returns c = search literal-long
