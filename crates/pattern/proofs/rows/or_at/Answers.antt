use Rattle.text.specs.Choice.{tests}
use Rattle.pattern.specs.Working.Places.{or_at}
use borrow.Author.Rules.{rules}
use Rattle.pattern.proofs.rows.or_at.Goals as goal

pub returns-then-i-t : goal.returns-then-i-t
unfolding or_at
returns-then-i-t c = search (rules, tests)

pub returns-else-i-t : goal.returns-else-i-t
unfolding or_at
returns-else-i-t c = search (rules, tests)
