use Rattle.expression.specs.Working.Packing.{differs-up, differs-down}
use Rattle.expression.proofs.operator.difference.Goals as goal

pub returns-then-y-x : goal.returns-then-y-x
returns-then-y-x c = search differs-up

pub returns : goal.returns
returns c = search differs-down
