use Rattle.conditions.proofs.LeafWays.{digits-large, digits-made}
use Rattle.conditions.proofs.leaf.digits.Goals as goal

pub returns-then-is_large : goal.returns-then-is_large
returns-then-is_large c = search digits-large

pub returns : goal.returns
returns c = search digits-made
