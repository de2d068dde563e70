use Rattle.machine.specs.Working.Quick.{is_told}
use Rattle.text.specs.Choice.{tests}
use borrow.Author.Rules.{rules}
use Rattle.machine.proofs.is_told.Goals as goal

pub returns-then-kind-eq3 : goal.returns-then-kind-eq3
unfolding is_told
returns-then-kind-eq3 c = search (rules, tests)

pub returns : goal.returns
unfolding is_told
returns c = search (rules, tests)
