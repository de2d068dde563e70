use Rattle.expression.specs.Working.Arithmetic.{rest-none, rest_in}
use Rattle.expression.proofs.integer.rest.Goals as goal

pub returns-then-b-eq0 : goal.returns-then-b-eq0
returns-then-b-eq0 c = search rest-none

pub returns : goal.returns
returns c = search rest_in
