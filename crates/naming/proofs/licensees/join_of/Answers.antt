use Rattle.naming.specs.Working.ChainWays.{join-all, join-any}
use Rattle.naming.proofs.licensees.join_of.Goals as goal

pub returns-then-level-eq-ALL : goal.returns-then-level-eq-ALL
returns-then-level-eq-ALL c = search (join-all, join-any)

pub returns : goal.returns
returns c = search (join-all, join-any)
