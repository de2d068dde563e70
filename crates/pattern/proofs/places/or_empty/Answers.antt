use borrow.Author.Rules.{rules}
use Rattle.text.specs.Choice.{tests}
use Rattle.pattern.specs.Working.Places.{or_empty}
use Rattle.pattern.proofs.places.or_empty.Goals as goal

pub returns : goal.returns
unfolding or_empty
returns c = search (rules, tests)
