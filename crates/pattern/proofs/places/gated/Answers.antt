use Rattle.text.specs.Choice.{tests}
use Rattle.pattern.specs.Working.Places.{gated, nowhere}
use borrow.Author.Rules.{rules}
use Rattle.pattern.proofs.places.gated.Goals as goal

pub returns-then-t : goal.returns-then-t
unfolding gated nowhere
returns-then-t c = search (rules, tests)

pub returns-else-t : goal.returns-else-t
unfolding gated nowhere
returns-else-t c = search (rules, tests)
