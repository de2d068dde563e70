use Rattle.conditions.specs.Table.{begins_string}
use borrow.Author.Rules.{rules}
use Rattle.text.specs.Choice.{tests}
use Rattle.conditions.proofs.table.is_string.Goals as goal

pub returns-then-k-eq-LITERAL : goal.returns-then-k-eq-LITERAL
unfolding begins_string
returns-then-k-eq-LITERAL c = search (rules, tests)

pub returns-then-k-eq-NAME : goal.returns-then-k-eq-NAME
unfolding begins_string
returns-then-k-eq-NAME c = search (rules, tests)

pub returns : goal.returns
unfolding begins_string
returns c = search (rules, tests)
