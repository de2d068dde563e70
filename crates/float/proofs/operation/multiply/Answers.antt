use Rattle.float.specs.Operations.{times}
use borrow.Author.Rules.{rules}
use Rattle.float.proofs.operation.multiply.Goals as goal

-- src/lib.rt:49:1
pub returns : goal.returns
unfolding times
returns c = search rules
