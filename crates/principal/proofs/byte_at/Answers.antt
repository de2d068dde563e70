use Rattle.principal.specs.Working.Tagging.{byte-here}
use borrow.Author.Rules.{rules}
use Rattle.principal.proofs.byte_at.Goals as goal

pub returns : goal.returns
returns c = record { value = search byte-here; upper_bound = search rules }
