use Rattle.conditions.specs.Working.Numbered.{float_operator}
use borrow.Author.Rules.{rules}
use Rattle.text.specs.Choice.{tests}
use Rattle.conditions.proofs.table.float_operator.Goals as goal

pub returns-then-k-eq-POWER : goal.returns-then-k-eq-POWER
unfolding float_operator
returns-then-k-eq-POWER c = search (rules, tests)

pub returns-then-k-eq-TIMES : goal.returns-then-k-eq-TIMES
unfolding float_operator
returns-then-k-eq-TIMES c = search (rules, tests)

pub returns-then-k-eq-DIVIDE : goal.returns-then-k-eq-DIVIDE
unfolding float_operator
returns-then-k-eq-DIVIDE c = search (rules, tests)

pub returns-then-k-eq-PLUS : goal.returns-then-k-eq-PLUS
unfolding float_operator
returns-then-k-eq-PLUS c = search (rules, tests)

pub returns-then-k-eq-MINUS : goal.returns-then-k-eq-MINUS
unfolding float_operator
returns-then-k-eq-MINUS c = search (rules, tests)

pub returns-then-k-eq-LESS : goal.returns-then-k-eq-LESS
unfolding float_operator
returns-then-k-eq-LESS c = search (rules, tests)

pub returns-then-k-eq-GREATER : goal.returns-then-k-eq-GREATER
unfolding float_operator
returns-then-k-eq-GREATER c = search (rules, tests)

pub returns-then-k-eq-AT_MOST : goal.returns-then-k-eq-AT_MOST
unfolding float_operator
returns-then-k-eq-AT_MOST c = search (rules, tests)

pub returns-then-k-eq-AT_LEAST : goal.returns-then-k-eq-AT_LEAST
unfolding float_operator
returns-then-k-eq-AT_LEAST c = search (rules, tests)

pub returns : goal.returns
unfolding float_operator
returns c = search (rules, tests)
