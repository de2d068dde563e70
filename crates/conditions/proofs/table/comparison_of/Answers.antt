use Rattle.conditions.specs.Working.Numbered.{comparison}
use borrow.Author.Rules.{rules}
use Rattle.text.specs.Choice.{tests}
use Rattle.conditions.proofs.table.comparison_of.Goals as goal

pub returns-then-k-eq-EQUAL : goal.returns-then-k-eq-EQUAL
unfolding comparison
returns-then-k-eq-EQUAL c = search (rules, tests)

pub returns-then-k-eq-UNEQUAL : goal.returns-then-k-eq-UNEQUAL
unfolding comparison
returns-then-k-eq-UNEQUAL c = search (rules, tests)

pub returns-then-k-eq-LESS : goal.returns-then-k-eq-LESS
unfolding comparison
returns-then-k-eq-LESS c = search (rules, tests)

pub returns-then-k-eq-GREATER : goal.returns-then-k-eq-GREATER
unfolding comparison
returns-then-k-eq-GREATER c = search (rules, tests)

pub returns-then-k-eq-AT_MOST : goal.returns-then-k-eq-AT_MOST
unfolding comparison
returns-then-k-eq-AT_MOST c = search (rules, tests)

pub returns-then-k-eq-AT_LEAST : goal.returns-then-k-eq-AT_LEAST
unfolding comparison
returns-then-k-eq-AT_LEAST c = search (rules, tests)

pub returns : goal.returns
unfolding comparison
returns c = search (rules, tests)
