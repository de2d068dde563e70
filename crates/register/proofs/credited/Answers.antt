use Rattle.register.specs.Working.Ways.{credit-fits, credit-held, credit-new, credit-full}
use Rattle.register.proofs.credited.Goals as goal

pub overflow_add-moves : goal.overflow_add-moves
overflow_add-moves c = search credit-fits

pub returns-in-At : goal.returns-in-At
returns-in-At c = search credit-held

pub returns-in-Some : goal.returns-in-Some
returns-in-Some c = search credit-new

pub returns-in-None : goal.returns-in-None
returns-in-None c = search credit-full
