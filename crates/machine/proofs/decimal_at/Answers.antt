use Rattle.machine.specs.Working.Decimals.{decimal-none, decimal-end, decimal-from, decimal-within, decimal-is}
use Rattle.machine.proofs.decimal_at.Goals as goal

pub returns-then-s-at : goal.returns-then-s-at
returns-then-s-at c = search decimal-none

pub returns-then-s-p : goal.returns-then-s-p
returns-then-s-p c = search decimal-end

pub slice_bounds-to_float-count-2 : goal.slice_bounds-to_float-count-2
slice_bounds-to_float-count-2 c = search decimal-from

pub slice_bounds-to_float-start-2 : goal.slice_bounds-to_float-start-2
slice_bounds-to_float-start-2 c = search decimal-from

pub slice_bounds-to_float-end-2 : goal.slice_bounds-to_float-end-2
slice_bounds-to_float-end-2 c = search decimal-within

pub returns : goal.returns
returns c = search decimal-is
