use Rattle.expression.specs.Working.Packing.{natural-in, natural-over}
use Rattle.expression.proofs.operator.natural.Goals as goal

pub returns-then-size-lt2147483648 : goal.returns-then-size-lt2147483648
returns-then-size-lt2147483648 c = search natural-in

pub returns : goal.returns
returns c = search natural-over
