use Rattle.text.specs.Choice.{tests}
use Rattle.pattern.specs.Working.Places.{add_if}
use borrow.Author.Rules.{rules}
use Rattle.pattern.proofs.rows.add_if.Goals as goal

pub returns-then-x-eq1 : goal.returns-then-x-eq1
unfolding add_if
returns-then-x-eq1 c = search (rules, tests)

pub returns-else-x-eq1 : goal.returns-else-x-eq1
unfolding add_if
returns-else-x-eq1 c = search (rules, tests)
