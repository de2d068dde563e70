use Rattle.expression.specs.Working.Arithmetic.{negated-in}
use Rattle.expression.proofs.integer.negate.Goals as goal

pub returns : goal.returns
returns c = search negated-in
