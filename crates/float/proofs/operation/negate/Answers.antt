use Rattle.float.specs.Operations.{negated}
use borrow.Author.Rules.{rules}
use Rattle.float.proofs.operation.negate.Goals as goal

-- src/lib.rt:61:1
pub returns : goal.returns
unfolding negated
returns c = search rules
