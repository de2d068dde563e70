use Rattle.journal.specs.Working.Ways.{write-none, write-one, write-part, write-whole, second-within, answer-within, answer-few, closing-within, answer-long, closing-long}
use Rattle.journal.proofs.write_entry.Goals as goal

pub returns-then-count-eq0 : goal.returns-then-count-eq0
returns-then-count-eq0 c = search write-none

pub returns-then-count-eq1 : goal.returns-then-count-eq1
returns-then-count-eq1 c = search write-one

pub bounds-page-at-2 : goal.bounds-page-at-2
bounds-page-at-2 c = search second-within

pub write_answer-requires : goal.write_answer-requires
write_answer-requires c = (search answer-within, search answer-few)

pub shape_of-page-then-count-n : goal.shape_of-page-then-count-n
shape_of-page-then-count-n c = search answer-long

pub returns-then-count-n : goal.returns-then-count-n
returns-then-count-n c = search write-part

pub bounds-page-at-3 : goal.bounds-page-at-3
bounds-page-at-3 c = search (closing-within c.args.page.now c.args.at c.args.count)

pub shape_of-page : goal.shape_of-page
shape_of-page c = search closing-long

pub returns : goal.returns
returns c = search write-whole
