use Rattle.expression.specs.Working.Packing.{naturals-sum, naturals-less, naturals-other, naturals-order}
use Rattle.expression.proofs.operator.of_naturals.Goals as goal

pub returns-then-y-le2147483648 : goal.returns-then-y-le2147483648
returns-then-y-le2147483648 c = search naturals-sum

pub returns-then-op-eq-MINUS : goal.returns-then-op-eq-MINUS
returns-then-op-eq-MINUS c = search naturals-less

pub returns-then-op-lt-EQUAL : goal.returns-then-op-lt-EQUAL
returns-then-op-lt-EQUAL c = search naturals-other

pub returns : goal.returns
returns c = search naturals-order
