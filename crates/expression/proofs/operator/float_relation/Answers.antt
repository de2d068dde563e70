use Rattle.expression.specs.Working.Operating.{float-less, float-greater, float-most, float-least}
use Rattle.expression.proofs.operator.float_relation.Goals as goal

pub returns-then-op-eq-FLOAT_LESS : goal.returns-then-op-eq-FLOAT_LESS
returns-then-op-eq-FLOAT_LESS c = search float-less

pub returns-then-op-eq-FLOAT_GREATER : goal.returns-then-op-eq-FLOAT_GREATER
returns-then-op-eq-FLOAT_GREATER c = search float-greater

pub returns-then-op-eq-FLOAT_AT_MOST : goal.returns-then-op-eq-FLOAT_AT_MOST
returns-then-op-eq-FLOAT_AT_MOST c = search float-most

pub returns : goal.returns
returns c = search float-least
