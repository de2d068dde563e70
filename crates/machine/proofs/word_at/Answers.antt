use Rattle.machine.specs.Working.Stepping.{word-past, word-from, word-within, word_in}
use Rattle.machine.proofs.word_at.Goals as goal

pub returns-then-s-at : goal.returns-then-s-at
returns-then-s-at c = search word-past

pub slice_bounds-result-count : goal.slice_bounds-result-count
slice_bounds-result-count c = search word-from

pub slice_bounds-result-start : goal.slice_bounds-result-start
slice_bounds-result-start c = search word-from

pub slice_bounds-result-end-2 : goal.slice_bounds-result-end-2
slice_bounds-result-end-2 c = search word-within

pub returns : goal.returns
returns c = search word_in
