use Rattle.machine.specs.Working.Passing.{above-push, above-unary, above_zero, above-binary}
use Rattle.machine.proofs.above_it.Goals as goal

pub returns-then-op-le-DECIMAL : goal.returns-then-op-le-DECIMAL
returns-then-op-le-DECIMAL c = search above-push

pub returns-then-op-le-FLOAT_NEGATE : goal.returns-then-op-le-FLOAT_NEGATE
returns-then-op-le-FLOAT_NEGATE c = search above-unary

pub returns-then-k-eq0 : goal.returns-then-k-eq0
returns-then-k-eq0 c = search above_zero

pub returns : goal.returns
returns c = search above-binary
