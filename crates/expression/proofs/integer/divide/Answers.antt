use Rattle.expression.specs.Working.Arithmetic.{over_none, over-in}
use Rattle.expression.proofs.integer.divide.Goals as goal

pub returns-then-b-eq0 : goal.returns-then-b-eq0
returns-then-b-eq0 c = search over_none

pub returns : goal.returns
returns c = search over-in
