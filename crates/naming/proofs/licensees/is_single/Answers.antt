use Rattle.naming.specs.Working.ChainWays.{single-not, single-literal, single-name}
use Rattle.naming.proofs.licensees.is_single.Goals as goal

pub returns-then-level-ne-ANY : goal.returns-then-level-ne-ANY
returns-then-level-ne-ANY c = search (single-not, single-literal, single-name)

pub returns-then-k-eq-LITERAL : goal.returns-then-k-eq-LITERAL
returns-then-k-eq-LITERAL c = search (single-not, single-literal, single-name)

pub returns : goal.returns
returns c = search (single-not, single-literal, single-name)
