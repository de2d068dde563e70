use Rattle.conditions.specs.Working.Numbered.{operator}
use Rattle.conditions.proofs.TableWays.{operator-none, operator-test, operator-word}
use Rattle.text.specs.Choice.{tests}
use borrow.Author.Rules.{rules}
use Rattle.conditions.proofs.table.operator_of.Goals as goal

pub number_operator-requires : goal.number_operator-requires
number_operator-requires c = search (rules, tests)

pub returns-then-sort-eq-INTEGER : goal.returns-then-sort-eq-INTEGER
unfolding operator
returns-then-sort-eq-INTEGER c = search (rules, tests)

pub text_operator-requires : goal.text_operator-requires
text_operator-requires c = search (rules, tests)

pub returns-then-sort-eq-TEXT : goal.returns-then-sort-eq-TEXT
unfolding operator
returns-then-sort-eq-TEXT c = search (rules, tests)

pub float_operator-requires : goal.float_operator-requires
float_operator-requires c = search (rules, tests)

pub returns-then-sort-eq-FLOAT : goal.returns-then-sort-eq-FLOAT
unfolding operator
returns-then-sort-eq-FLOAT c = search (rules, tests)

pub test_operator-o-requires : goal.test_operator-o-requires
test_operator-o-requires c = search (rules, tests)

pub returns-then-o-ne-NONE : goal.returns-then-o-ne-NONE
returns-then-o-ne-NONE c = search operator-test

pub returns-then-sort-eq-TEST : goal.returns-then-sort-eq-TEST
returns-then-sort-eq-TEST c = search operator-none

pub text_operator-requires-2 : goal.text_operator-requires-2
text_operator-requires-2 c = search (rules, tests)

pub returns : goal.returns
returns c = search operator-word
