use Rattle.expression.specs.Working.Operating.{floats-power, floats-times, floats-over, floats-plus, floats-minus, floats-compare}
use Rattle.expression.proofs.operator.of_floats.Goals as goal

pub returns-then-op-eq-FLOAT_POWER : goal.returns-then-op-eq-FLOAT_POWER
returns-then-op-eq-FLOAT_POWER c = search floats-power

pub returns-then-op-eq-FLOAT_TIMES : goal.returns-then-op-eq-FLOAT_TIMES
returns-then-op-eq-FLOAT_TIMES c = search floats-times

pub returns-then-op-eq-FLOAT_OVER : goal.returns-then-op-eq-FLOAT_OVER
returns-then-op-eq-FLOAT_OVER c = search floats-over

pub returns-then-op-eq-FLOAT_PLUS : goal.returns-then-op-eq-FLOAT_PLUS
returns-then-op-eq-FLOAT_PLUS c = search floats-plus

pub returns-then-op-eq-FLOAT_MINUS : goal.returns-then-op-eq-FLOAT_MINUS
returns-then-op-eq-FLOAT_MINUS c = search floats-minus

pub returns : goal.returns
returns c = search floats-compare
