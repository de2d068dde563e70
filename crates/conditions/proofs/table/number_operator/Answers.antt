use Rattle.conditions.proofs.TableWays.{number-none, number-compared}
use Rattle.conditions.specs.Working.Numbered.{number_operator}
use Rattle.text.specs.Choice.{tests}
use borrow.Author.Rules.{rules}
use Rattle.conditions.proofs.table.number_operator.Goals as goal

pub returns-then-k-eq-POWER : goal.returns-then-k-eq-POWER
unfolding number_operator
returns-then-k-eq-POWER c = search (rules, tests)

pub returns-then-k-eq-TIMES : goal.returns-then-k-eq-TIMES
unfolding number_operator
returns-then-k-eq-TIMES c = search (rules, tests)

pub returns-then-k-eq-DIVIDE : goal.returns-then-k-eq-DIVIDE
unfolding number_operator
returns-then-k-eq-DIVIDE c = search (rules, tests)

pub returns-then-k-eq-REMAINDER : goal.returns-then-k-eq-REMAINDER
unfolding number_operator
returns-then-k-eq-REMAINDER c = search (rules, tests)

pub returns-then-k-eq-PLUS : goal.returns-then-k-eq-PLUS
unfolding number_operator
returns-then-k-eq-PLUS c = search (rules, tests)

pub returns-then-k-eq-MINUS : goal.returns-then-k-eq-MINUS
unfolding number_operator
returns-then-k-eq-MINUS c = search (rules, tests)

pub comparison_of-c-requires : goal.comparison_of-c-requires
comparison_of-c-requires c = search (rules, tests)

pub returns-then-c-eq-NONE : goal.returns-then-c-eq-NONE
returns-then-c-eq-NONE c = search number-none

pub overflow_add-result : goal.overflow_add-result
overflow_add-result c = search (rules, tests)

pub returns : goal.returns
returns c = search number-compared
