use Rattle.float.specs.Operations.{over}
use borrow.Author.Rules.{rules}
use Rattle.float.proofs.operation.divide.Goals as goal

-- src/lib.rt:55:1
pub returns : goal.returns
unfolding over
returns c = search rules
