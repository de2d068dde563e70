use Rattle.lexical.specs.Working.Plain.{bare-from, bare-within, bare-fits}
use Rattle.machine.specs.Working.Stepping.{literal-bare, literal-over, literal-in, literal-none, literal-room}
use Rattle.machine.proofs.push_literal.Goals as goal

pub overflow_add-at : goal.overflow_add-at
overflow_add-at c = search bare-fits

pub slice_bounds-push_text-count : goal.slice_bounds-push_text-count
slice_bounds-push_text-count c = search bare-from

pub slice_bounds-push_text-start : goal.slice_bounds-push_text-start
slice_bounds-push_text-start c = search bare-from

pub slice_bounds-push_text-end : goal.slice_bounds-push_text-end
slice_bounds-push_text-end c = search bare-within

pub returns-in-Some : goal.returns-in-Some
returns-in-Some c = search literal-bare

pub overflow_add-t : goal.overflow_add-t
overflow_add-t c = search literal-room

pub returns-in-Ok : goal.returns-in-Ok
returns-in-Ok c = search literal-in

pub returns-in-Err-Long : goal.returns-in-Err-Long
returns-in-Err-Long c = search literal-over

pub returns-in-Err-Full : goal.returns-in-Err-Full
returns-in-Err-Full c = search literal-none
