use Rattle.conditions.specs.Working.Numbered.{text_operator}
use Rattle.text.specs.Choice.{tests}
use borrow.Author.Rules.{rules}
use Rattle.conditions.proofs.table.text_operator.Goals as goal

pub returns-then-k-eq-DOT : goal.returns-then-k-eq-DOT
unfolding text_operator
returns-then-k-eq-DOT c = search (rules, tests)

pub returns-then-k-eq-MATCHES : goal.returns-then-k-eq-MATCHES
unfolding text_operator
returns-then-k-eq-MATCHES c = search (rules, tests)

pub comparison_of-requires : goal.comparison_of-requires
comparison_of-requires c = search (rules, tests)

pub returns : goal.returns
unfolding text_operator
returns c = search (rules, tests)
