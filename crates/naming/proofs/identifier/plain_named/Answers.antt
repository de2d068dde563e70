use Rattle.naming.specs.Working.Identifying.{plain-name, plain-bytes, plain-some, plain_fits, plain-from, plain-within}
use Rattle.naming.proofs.identifier.plain_named.Goals as goal

pub returns-then-t-eq-NAME : goal.returns-then-t-eq-NAME
returns-then-t-eq-NAME c = search plain-name

pub overflow_add-t : goal.overflow_add-t
overflow_add-t c = search plain_fits

pub overflow_sub-t : goal.overflow_sub-t
overflow_sub-t c = search plain-some

pub slice_bounds-entered-count : goal.slice_bounds-entered-count
slice_bounds-entered-count c = search plain-from

pub slice_bounds-entered-start : goal.slice_bounds-entered-start
slice_bounds-entered-start c = search plain-from

pub slice_bounds-entered-end : goal.slice_bounds-entered-end
slice_bounds-entered-end c = search plain-within

pub returns : goal.returns
returns c = search plain-bytes
