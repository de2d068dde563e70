use Rattle.expression.specs.Working.Arithmetic.{minus-in}
use Rattle.expression.proofs.integer.subtract.Goals as goal

pub returns : goal.returns
returns c = search minus-in
