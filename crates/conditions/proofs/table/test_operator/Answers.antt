use Rattle.conditions.specs.Working.Numbered.{test_operator}
use borrow.Author.Rules.{rules}
use Rattle.text.specs.Choice.{tests}
use Rattle.conditions.proofs.table.test_operator.Goals as goal

pub returns-then-k-eq-AND : goal.returns-then-k-eq-AND
unfolding test_operator
returns-then-k-eq-AND c = search (rules, tests)

pub returns-then-k-eq-OR : goal.returns-then-k-eq-OR
unfolding test_operator
returns-then-k-eq-OR c = search (rules, tests)

pub returns : goal.returns
unfolding test_operator
returns c = search (rules, tests)
