use Rattle.machine.specs.Working.Quick.{is_natural, is_integral}
use Rattle.text.specs.Choice.{tests}
use borrow.Author.Rules.{rules}
use Rattle.machine.proofs.is_natural.Goals as goal

pub returns-then-x-ne1 : goal.returns-then-x-ne1
unfolding is_natural is_integral
returns-then-x-ne1 c = search (rules, tests)

pub returns-then-y-ne1 : goal.returns-then-y-ne1
unfolding is_natural is_integral
returns-then-y-ne1 c = search (rules, tests)

pub returns-then-op-lt-POWER : goal.returns-then-op-lt-POWER
unfolding is_natural is_integral
returns-then-op-lt-POWER c = search (rules, tests)

pub returns-then-op-le-MINUS : goal.returns-then-op-le-MINUS
unfolding is_natural is_integral
returns-then-op-le-MINUS c = search (rules, tests)

pub returns-then-op-lt-EQUAL : goal.returns-then-op-lt-EQUAL
unfolding is_natural is_integral
returns-then-op-lt-EQUAL c = search (rules, tests)

pub returns : goal.returns
unfolding is_natural is_integral
returns c = search (rules, tests)
