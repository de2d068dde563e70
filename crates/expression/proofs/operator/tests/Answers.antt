use Rattle.expression.proofs.Working.Operating.{both-more, both-done, either-done, either-more, tests-none}
use Rattle.expression.proofs.operator.tests.Goals as goal

pub returns-then-holds_in : goal.returns-then-holds_in
returns-then-holds_in c = search both-more

pub returns-then-op-eq-BOTH : goal.returns-then-op-eq-BOTH
returns-then-op-eq-BOTH c = search both-done

pub returns-then-holds_in-2 : goal.returns-then-holds_in-2
returns-then-holds_in-2 c = search either-done

pub returns-then-is_test : goal.returns-then-is_test
returns-then-is_test c = search either-more

pub returns : goal.returns
returns c = search tests-none
