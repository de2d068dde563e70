use Rattle.expression.specs.Working.Operating.{floats-both, floats-half, floats-none}
use Rattle.expression.proofs.operator.floats.Goals as goal

pub returns-then-is_float-2 : goal.returns-then-is_float-2
returns-then-is_float-2 c = search floats-both

pub returns-then-is_float : goal.returns-then-is_float
returns-then-is_float c = search floats-half

pub returns : goal.returns
returns c = search floats-none
