use Rattle.expression.specs.Working.Operating.{negate-number, negate-none}
use Rattle.expression.proofs.operator.negate_operand.Goals as goal

pub returns-then-is_number : goal.returns-then-is_number
returns-then-is_number c = search negate-number

pub returns : goal.returns
returns c = search negate-none
