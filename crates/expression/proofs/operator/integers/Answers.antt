use Rattle.expression.specs.Working.Operating.{integers-both, integers-half, integers-none}
use Rattle.expression.proofs.operator.integers.Goals as goal

pub returns-then-is_number-2 : goal.returns-then-is_number-2
returns-then-is_number-2 c = search integers-both

pub returns-then-is_number : goal.returns-then-is_number
returns-then-is_number c = search integers-half

pub returns : goal.returns
returns c = search integers-none
