use Rattle.machine.specs.Working.Alike.{alike-first, alike-second, alike-equal, alike-unequal}
use Rattle.machine.proofs.is_alike.Goals as goal

pub returns-then-x-ne0 : goal.returns-then-x-ne0
returns-then-x-ne0 c = search alike-first

pub returns-then-y-ne0 : goal.returns-then-y-ne0
returns-then-y-ne0 c = search alike-second

pub returns-then-op-eq-TEXT_EQUAL : goal.returns-then-op-eq-TEXT_EQUAL
returns-then-op-eq-TEXT_EQUAL c = search alike-equal

pub returns : goal.returns
returns c = search alike-unequal
