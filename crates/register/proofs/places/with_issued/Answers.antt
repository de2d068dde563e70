use Rattle.register.specs.Working.Places.{with_issued}
use borrow.Author.Rules.{rules}
use Rattle.register.proofs.places.with_issued.Goals as goal

pub returns : goal.returns
unfolding with_issued
returns c = search rules
