use Rattle.expression.specs.Working.Operating.{does-join, does-equal, does-differ, does-match, does-order}
use Rattle.expression.proofs.operator.of_strings.Goals as goal

pub returns-then-op-eq-JOIN : goal.returns-then-op-eq-JOIN
returns-then-op-eq-JOIN c = search does-join

pub returns-then-op-eq-TEXT_EQUAL : goal.returns-then-op-eq-TEXT_EQUAL
returns-then-op-eq-TEXT_EQUAL c = search does-equal

pub returns-then-op-eq-TEXT_UNEQUAL : goal.returns-then-op-eq-TEXT_UNEQUAL
returns-then-op-eq-TEXT_UNEQUAL c = search does-differ

pub returns-then-op-eq-MATCHES : goal.returns-then-op-eq-MATCHES
returns-then-op-eq-MATCHES c = search does-match

pub returns : goal.returns
returns c = search does-order
