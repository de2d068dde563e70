use Rattle.principal.specs.Working.Tagging.{mixed-is}
use borrow.Author.Rules.{rules}
use Rattle.principal.proofs.mix.Goals as goal

pub returns : goal.returns
returns c = record { value = search mixed-is; upper_bound = search rules }
