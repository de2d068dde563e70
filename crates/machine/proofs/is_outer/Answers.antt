use Rattle.machine.specs.Working.Passing.{outer-push, outer-clause, outer-none, outer-unary, outer-inner, outer-left}
use Rattle.machine.proofs.is_outer.Goals as goal

pub returns-then-op-le-DECIMAL : goal.returns-then-op-le-DECIMAL
returns-then-op-le-DECIMAL c = search outer-push

pub returns-then-op-gt-EITHER : goal.returns-then-op-gt-EITHER
returns-then-op-gt-EITHER c = search outer-clause

pub returns-then-k-eq0 : goal.returns-then-k-eq0
returns-then-k-eq0 c = search outer-none

pub returns-then-op-le-FLOAT_NEGATE : goal.returns-then-op-le-FLOAT_NEGATE
returns-then-op-le-FLOAT_NEGATE c = search outer-unary

pub returns-then-k-ne1 : goal.returns-then-k-ne1
returns-then-k-ne1 c = search outer-inner

pub returns : goal.returns
returns c = search outer-left
