use Rattle.machine.specs.Working.Running.{act-lookup, act-unary, act-binary, act-clause}
use Rattle.machine.proofs.act.Goals as goal

pub returns-then-op-eq-LOOKUP : goal.returns-then-op-eq-LOOKUP
returns-then-op-eq-LOOKUP c = search act-lookup

pub returns-then-op-le-FLOAT_NEGATE : goal.returns-then-op-le-FLOAT_NEGATE
returns-then-op-le-FLOAT_NEGATE c = search act-unary

pub returns-then-op-le-EITHER : goal.returns-then-op-le-EITHER
returns-then-op-le-EITHER c = search act-binary

pub returns : goal.returns
returns c = search act-clause
