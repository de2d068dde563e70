use Rattle.lexical.specs.Kind.{ending}
use Rattle.conditions.specs.Table.{stops}
use borrow.Author.Rules.{rules}
use Rattle.text.specs.Choice.{tests}
use Rattle.conditions.proofs.table.is_stop.Goals as goal

pub returns-then-nest-ne0 : goal.returns-then-nest-ne0
unfolding stops ending
returns-then-nest-ne0 c = search (rules, tests)

pub returns-then-k-eq-END : goal.returns-then-k-eq-END
unfolding stops ending
returns-then-k-eq-END c = search (rules, tests)

pub returns-then-k-lt-KEYNOTE_VERSION : goal.returns-then-k-lt-KEYNOTE_VERSION
unfolding stops ending
returns-then-k-lt-KEYNOTE_VERSION c = search (rules, tests)

pub returns : goal.returns
unfolding stops ending
returns c = search (rules, tests)
