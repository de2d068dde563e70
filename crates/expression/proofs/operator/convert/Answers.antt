use Rattle.expression.specs.Working.Operating.{convert-text, convert-none}
use Rattle.expression.proofs.operator.convert.Goals as goal

pub returns-then-is_text : goal.returns-then-is_text
returns-then-is_text c = search convert-text

pub returns : goal.returns
returns c = search convert-none
