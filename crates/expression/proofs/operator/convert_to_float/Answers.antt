use Rattle.expression.specs.Working.Operating.{to-float-text, to-float-none}
use Rattle.expression.proofs.operator.convert_to_float.Goals as goal

pub returns-then-is_text : goal.returns-then-is_text
returns-then-is_text c = search to-float-text

pub returns : goal.returns
returns c = search to-float-none
