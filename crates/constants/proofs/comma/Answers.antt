use Rattle.text.specs.Choice.{tests}
use borrow.Author.Rules.{rules}
use Rattle.constants.proofs.comma.Goals as goal

pub returns-then-i-eq0 : goal.returns-then-i-eq0
returns-then-i-eq0 c = search (rules, tests)

pub returns : goal.returns
returns c = search (rules, tests)
