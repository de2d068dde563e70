use borrow.Author.Rules.{rules}
use Rattle.text.specs.Choice.{tests}
use Rattle.pattern.specs.Working.Places.{nowhere}
use Rattle.pattern.proofs.places.nowhere.Goals as goal

pub returns : goal.returns
unfolding nowhere
returns c = search (rules, tests)
