use Rattle.conditions.specs.Working.Numbered.{fits}
use borrow.Author.Rules.{rules}
use Rattle.text.specs.Choice.{tests}
use Rattle.conditions.proofs.table.is_fit.Goals as goal

pub returns-then-sort-wanted : goal.returns-then-sort-wanted
unfolding fits
returns-then-sort-wanted c = search (rules, tests)

pub returns-then-sort-lt-TRUE : goal.returns-then-sort-lt-TRUE
unfolding fits
returns-then-sort-lt-TRUE c = search (rules, tests)

pub returns : goal.returns
unfolding fits
returns c = search (rules, tests)
