use Rattle.principal.specs.Working.Tagging.{tag-all, tag-ends}
use borrow.Author.Rules.{rules}
use Rattle.principal.proofs.tag_of.Goals as goal

pub returns-then-n-le64 : goal.returns-then-n-le64
returns-then-n-le64 c = record { value = search tag-all; upper_bound = search rules }

pub returns : goal.returns
returns c = record { value = search tag-ends; upper_bound = search rules }
