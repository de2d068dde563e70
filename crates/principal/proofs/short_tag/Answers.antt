use Rattle.principal.specs.Working.Tagging.{short-is}
use borrow.Author.Rules.{rules}
use Rattle.principal.proofs.short_tag.Goals as goal

pub returns : goal.returns
returns c = record { value = search short-is; upper_bound = search rules }
