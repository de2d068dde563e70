use Rattle.conditions.specs.Working.Numbered.{prefix_of}
use borrow.Author.Rules.{rules}
use Rattle.text.specs.Choice.{tests}
use Rattle.conditions.proofs.table.prefix_of.Goals as goal

pub returns-then-sort-eq-FLOAT : goal.returns-then-sort-eq-FLOAT
unfolding prefix_of
returns-then-sort-eq-FLOAT c = search (rules, tests)

pub returns-else-sort-eq-FLOAT : goal.returns-else-sort-eq-FLOAT
unfolding prefix_of
returns-else-sort-eq-FLOAT c = search (rules, tests)

pub returns-else-op-eq-NEGATE : goal.returns-else-op-eq-NEGATE
unfolding prefix_of
returns-else-op-eq-NEGATE c = search (rules, tests)
