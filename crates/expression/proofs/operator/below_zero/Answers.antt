use Rattle.expression.specs.Working.Packing.{below_none, below_in, below-over}
use Rattle.expression.proofs.operator.below_zero.Goals as goal

pub returns-then-size-eq0 : goal.returns-then-size-eq0
returns-then-size-eq0 c = search below_none

pub returns-then-size-le2147483648 : goal.returns-then-size-le2147483648
returns-then-size-le2147483648 c = search below_in

pub returns : goal.returns
returns c = search below-over
