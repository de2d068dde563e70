use Rattle.expression.specs.Working.Operating.{does-power, does-times, does-over, does-rest, does-plus, does-minus, does-compare}
use Rattle.expression.proofs.operator.of_integers.Goals as goal

pub returns-then-op-eq-POWER : goal.returns-then-op-eq-POWER
returns-then-op-eq-POWER c = search does-power

pub returns-then-op-eq-TIMES : goal.returns-then-op-eq-TIMES
returns-then-op-eq-TIMES c = search does-times

pub returns-then-op-eq-OVER : goal.returns-then-op-eq-OVER
returns-then-op-eq-OVER c = search does-over

pub returns-then-op-eq-REMAINDER : goal.returns-then-op-eq-REMAINDER
returns-then-op-eq-REMAINDER c = search does-rest

pub returns-then-op-eq-PLUS : goal.returns-then-op-eq-PLUS
returns-then-op-eq-PLUS c = search does-plus

pub returns-then-op-eq-MINUS : goal.returns-then-op-eq-MINUS
returns-then-op-eq-MINUS c = search does-minus

pub returns : goal.returns
returns c = search does-compare
