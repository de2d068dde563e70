use Rattle.index.specs.Entry.{identifier_at, place_in}
use borrow.Author.Rules.{rules}
use Rattle.index.proofs.identifier_at.Goals as goal

pub returns : goal.returns
unfolding identifier_at place_in
returns c = search rules
