use Rattle.float.specs.Operations.{minus}
use borrow.Author.Rules.{rules}
use Rattle.float.proofs.operation.subtract.Goals as goal

-- src/lib.rt:43:1
pub returns : goal.returns
unfolding minus
returns c = search rules
