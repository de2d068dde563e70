use Rattle.conditions.proofs.LeafWays.{name-bare, name-made}
use Rattle.conditions.proofs.leaf.name.Goals as goal

pub returns-then-w-ne-TEXT : goal.returns-then-w-ne-TEXT
returns-then-w-ne-TEXT c = search name-bare

pub returns : goal.returns
returns c = search name-made
