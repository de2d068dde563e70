use Rattle.expression.specs.Working.Packing.{packed-is}
use Rattle.expression.proofs.value.pack_operand.Goals as goal

pub returns : goal.returns
returns c = search packed-is
