use Rattle.naming.specs.Working.ListWays.{literal-most, literal-placed, literal-some, literal-fits, literal-from, literal-within}
use Rattle.naming.proofs.list.literal_before.Goals as goal

pub returns-then-st-ge-MOST_LICENSEES : goal.returns-then-st-ge-MOST_LICENSEES
returns-then-st-ge-MOST_LICENSEES c = search literal-most

pub overflow_add-start : goal.overflow_add-start
overflow_add-start c = search literal-fits

pub overflow_sub-stop : goal.overflow_sub-stop
overflow_sub-stop c = search literal-some

pub slice_bounds-enter-count : goal.slice_bounds-enter-count
slice_bounds-enter-count c = search literal-from

pub slice_bounds-enter-start : goal.slice_bounds-enter-start
slice_bounds-enter-start c = search literal-from

pub slice_bounds-enter-end : goal.slice_bounds-enter-end
slice_bounds-enter-end c = search literal-within

pub returns : goal.returns
returns c = search literal-placed
