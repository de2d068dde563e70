use Rattle.principal.specs.Working.Tagging.{group-here}
use borrow.Author.Rules.{rules}
use Rattle.principal.proofs.group_at.Goals as goal

pub returns : goal.returns
returns c = record { value = search group-here; upper_bound = search rules }
