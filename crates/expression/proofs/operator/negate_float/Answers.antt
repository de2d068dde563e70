use Rattle.expression.specs.Working.Operating.{negate-float, negate-no-float}
use Rattle.expression.proofs.operator.negate_float.Goals as goal

pub returns-then-is_float : goal.returns-then-is_float
returns-then-is_float c = search negate-float

pub returns : goal.returns
returns c = search negate-no-float
