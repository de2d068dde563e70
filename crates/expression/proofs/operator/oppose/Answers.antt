use Rattle.expression.specs.Working.Operating.{oppose-test}
use Rattle.expression.proofs.Working.Operating.{oppose-none}
use Rattle.expression.proofs.operator.oppose.Goals as goal

pub returns-then-is_test : goal.returns-then-is_test
returns-then-is_test c = search oppose-test

pub returns : goal.returns
returns c = search oppose-none
