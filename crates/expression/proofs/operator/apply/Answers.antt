use Rattle.expression.specs.Working.Operating.{apply-convert, apply-negate, apply-oppose, apply-float, apply-negative, apply-plain}
use Rattle.expression.proofs.operator.apply.Goals as goal

pub returns-then-op-eq-CONVERT : goal.returns-then-op-eq-CONVERT
returns-then-op-eq-CONVERT c = search apply-convert

pub returns-then-op-eq-NEGATE : goal.returns-then-op-eq-NEGATE
returns-then-op-eq-NEGATE c = search apply-negate

pub returns-then-op-eq-OPPOSITE : goal.returns-then-op-eq-OPPOSITE
returns-then-op-eq-OPPOSITE c = search apply-oppose

pub returns-then-op-eq-TO_FLOAT : goal.returns-then-op-eq-TO_FLOAT
returns-then-op-eq-TO_FLOAT c = search apply-float

pub returns-then-op-eq-FLOAT_NEGATE : goal.returns-then-op-eq-FLOAT_NEGATE
returns-then-op-eq-FLOAT_NEGATE c = search apply-negative

pub returns : goal.returns
returns c = search apply-plain
