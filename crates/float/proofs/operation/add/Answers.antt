use Rattle.float.specs.Operations.{plus}
use borrow.Author.Rules.{rules}
use Rattle.float.proofs.operation.add.Goals as goal

-- src/lib.rt:37:1
pub returns : goal.returns
unfolding plus
returns c = search rules
