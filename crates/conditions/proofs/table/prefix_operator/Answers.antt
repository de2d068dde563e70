use Rattle.conditions.specs.Working.Numbered.{prefix_operator}
use borrow.Author.Rules.{rules}
use Rattle.text.specs.Choice.{tests}
use Rattle.conditions.proofs.table.prefix_operator.Goals as goal

pub returns-then-k-eq-MINUS : goal.returns-then-k-eq-MINUS
unfolding prefix_operator
returns-then-k-eq-MINUS c = search (rules, tests)

pub returns-then-k-eq-AT : goal.returns-then-k-eq-AT
unfolding prefix_operator
returns-then-k-eq-AT c = search (rules, tests)

pub returns-then-k-eq-DOLLAR : goal.returns-then-k-eq-DOLLAR
unfolding prefix_operator
returns-then-k-eq-DOLLAR c = search (rules, tests)

pub returns-then-k-eq-NOT : goal.returns-then-k-eq-NOT
unfolding prefix_operator
returns-then-k-eq-NOT c = search (rules, tests)

pub returns-then-k-eq-AMPERSAND : goal.returns-then-k-eq-AMPERSAND
unfolding prefix_operator
returns-then-k-eq-AMPERSAND c = search (rules, tests)

pub returns : goal.returns
unfolding prefix_operator
returns c = search (rules, tests)
