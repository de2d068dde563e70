use Rattle.conditions.specs.Table.{begins_number}
use borrow.Author.Rules.{rules}
use Rattle.text.specs.Choice.{tests}
use Rattle.conditions.proofs.table.is_number.Goals as goal

pub returns-then-k-eq-DIGITS : goal.returns-then-k-eq-DIGITS
unfolding begins_number
returns-then-k-eq-DIGITS c = search (rules, tests)

pub returns-then-k-eq-MINUS : goal.returns-then-k-eq-MINUS
unfolding begins_number
returns-then-k-eq-MINUS c = search (rules, tests)

pub returns : goal.returns
unfolding begins_number
returns c = search (rules, tests)
