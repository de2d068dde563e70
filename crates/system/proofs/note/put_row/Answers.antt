use Rattle.system.specs.Working.NotingWays.{row-authors, row-conds, row_ends, row_in}
use Rattle.system.proofs.note.put_row.Goals as goal

pub returns-then-authors-k : goal.returns-then-authors-k
returns-then-authors-k c = search row-authors

pub returns-then-conds-k : goal.returns-then-conds-k
returns-then-conds-k c = search row-conds

pub returns-then-ends-k : goal.returns-then-ends-k
returns-then-ends-k c = search row_ends

pub returns : goal.returns
returns c = search row_in
