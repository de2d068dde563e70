use Rattle.expression.specs.Operands.{unpacked}
use Rattle.text.specs.Choice.{tests}
use borrow.Author.Rules.{rules}
use Rattle.expression.proofs.value.unpack.Goals as goal

pub returns-then-kind-eq0 : goal.returns-then-kind-eq0
unfolding unpacked
returns-then-kind-eq0 c = search (rules, tests)

pub returns-then-kind-eq1 : goal.returns-then-kind-eq1
unfolding unpacked
returns-then-kind-eq1 c = search (rules, tests)

pub returns-then-kind-eq2 : goal.returns-then-kind-eq2
unfolding unpacked
returns-then-kind-eq2 c = search (rules, tests)

pub returns-then-kind-eq3 : goal.returns-then-kind-eq3
unfolding unpacked
returns-then-kind-eq3 c = search (rules, tests)

pub returns-then-kind-eq4 : goal.returns-then-kind-eq4
unfolding unpacked
returns-then-kind-eq4 c = search (rules, tests)

pub returns-then-kind-eq5 : goal.returns-then-kind-eq5
unfolding unpacked
returns-then-kind-eq5 c = search (rules, tests)

pub float_of-requires : goal.float_of-requires
float_of-requires c = search (rules, tests)

pub returns-then-kind-eq7 : goal.returns-then-kind-eq7
unfolding unpacked
returns-then-kind-eq7 c = search (rules, tests)

pub returns : goal.returns
unfolding unpacked
returns c = search (rules, tests)
