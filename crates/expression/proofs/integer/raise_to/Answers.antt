use Rattle.expression.specs.Working.Arithmetic.{power-none, power-negative, power_in}
use Rattle.expression.proofs.integer.raise_to.Goals as goal

pub returns-then-b-eq0 : goal.returns-then-b-eq0
returns-then-b-eq0 c = search power-none

pub returns-then-b : goal.returns-then-b
returns-then-b c = search power-negative

pub returns : goal.returns
returns c = search power_in
