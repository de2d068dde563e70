use Rattle.naming.specs.Working.Whole.{whole-other, whole_out, whole_back, whole-few, whole-many, whole_open, whole-closed}
use Rattle.naming.proofs.whole.is_whole.Goals as goal

pub returns-then-t-ne-LITERAL : goal.returns-then-t-ne-LITERAL
returns-then-t-ne-LITERAL c = search whole-other

pub returns-then-s-end : goal.returns-then-s-end
returns-then-s-end c = search whole_out

pub returns-then-end-start : goal.returns-then-end-start
returns-then-end-start c = search whole_back

pub returns-then-end-start-lt3 : goal.returns-then-end-start-lt3
returns-then-end-start-lt3 c = search whole-few

pub returns-then-end-start-2 : goal.returns-then-end-start-2
returns-then-end-start-2 c = search whole-many

pub returns-then-s-end-ne34 : goal.returns-then-s-end-ne34
returns-then-s-end-ne34 c = search whole_open

pub returns : goal.returns
returns c = search whole-closed
