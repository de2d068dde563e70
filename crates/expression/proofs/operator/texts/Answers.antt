use Rattle.expression.specs.Working.Operating.{texts-both, texts-half, texts-none}
use Rattle.expression.proofs.operator.texts.Goals as goal

pub returns-then-is_text-2 : goal.returns-then-is_text-2
returns-then-is_text-2 c = search texts-both

pub returns-then-is_text : goal.returns-then-is_text
returns-then-is_text c = search texts-half

pub returns : goal.returns
returns c = search texts-none
