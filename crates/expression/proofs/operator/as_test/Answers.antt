use Rattle.expression.specs.Working.Operating.{as-test, as_none}
use Rattle.expression.proofs.operator.as_test.Goals as goal

pub returns-then-is_test : goal.returns-then-is_test
returns-then-is_test c = search as-test

pub returns : goal.returns
returns c = search as_none
