use borrow.Author.Rules.{rules}
use Rattle.text.specs.Choice.{tests}
use Rattle.pattern.specs.Working.Places.{join}
use Rattle.pattern.proofs.places.join.Goals as goal

pub returns : goal.returns
unfolding join
returns c = search (rules, tests)
