use Rattle.conditions.specs.Table.{begins_float}
use borrow.Author.Rules.{rules}
use Rattle.text.specs.Choice.{tests}
use Rattle.conditions.proofs.table.is_float.Goals as goal

pub returns-then-k-eq-FLOAT : goal.returns-then-k-eq-FLOAT
unfolding begins_float
returns-then-k-eq-FLOAT c = search (rules, tests)

pub returns-then-k-eq-MINUS : goal.returns-then-k-eq-MINUS
unfolding begins_float
returns-then-k-eq-MINUS c = search (rules, tests)

pub returns : goal.returns
unfolding begins_float
returns c = search (rules, tests)
