use Rattle.expression.specs.Working.Operating.{binary-texts, binary-integers, binary-floats, binary-tests, binary-none}
use Rattle.expression.proofs.operator.binary.Goals as goal

pub returns-then-is_textual : goal.returns-then-is_textual
returns-then-is_textual c = search binary-texts

pub returns-then-op-le-AT_LEAST : goal.returns-then-op-le-AT_LEAST
returns-then-op-le-AT_LEAST c = search binary-integers

pub returns-then-op-le-FLOAT_AT_LEAST : goal.returns-then-op-le-FLOAT_AT_LEAST
returns-then-op-le-FLOAT_AT_LEAST c = search binary-floats

pub returns-then-op-le-EITHER : goal.returns-then-op-le-EITHER
returns-then-op-le-EITHER c = search binary-tests

pub returns : goal.returns
returns c = search binary-none
