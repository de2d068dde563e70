use Rattle.expression.specs.Working.Packing.{told-yes, told-no}
use Rattle.expression.proofs.value.told.Goals as goal

pub returns-then-holds : goal.returns-then-holds
returns-then-holds c = search told-yes

pub returns : goal.returns
returns c = search told-no
