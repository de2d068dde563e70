use Rattle.machine.specs.Working.Decimals.{digits-none, digits-behind, digits-fit}
use Rattle.machine.proofs.digits_end.Goals as goal

pub returns-then-s-at : goal.returns-then-s-at
returns-then-s-at c = search digits-none

pub overflow_add-result : goal.overflow_add-result
overflow_add-result c = search digits-fit

pub returns : goal.returns
returns c = search digits-behind
