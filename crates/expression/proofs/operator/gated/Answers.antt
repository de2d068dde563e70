use Rattle.expression.specs.Working.Operating.{gated-in, gated-out}
use Rattle.expression.proofs.operator.gated.Goals as goal

pub returns-then-holds_in : goal.returns-then-holds_in
returns-then-holds_in c = search gated-in

pub returns : goal.returns
returns c = search gated-out
