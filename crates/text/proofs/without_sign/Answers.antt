use Rattle.text.specs.Working.Deciding.{unsigned-none, unsigned-all, unsigned-other, unsigned-point, front-room}
use borrow.Author.Rules.{rules}
use Rattle.text.proofs.without_sign.Goals as goal

pub returns-then-k-eq0 : goal.returns-then-k-eq0
returns-then-k-eq0 c = search unsigned-none

pub returns-then-s-k : goal.returns-then-s-k
returns-then-s-k c = search unsigned-all

pub returns-then-s-k-ne46 : goal.returns-then-s-k-ne46
returns-then-s-k-ne46 c = search unsigned-other

pub slice_bounds-number-end : goal.slice_bounds-number-end
slice_bounds-number-end c = search (rules, front-room)

pub returns : goal.returns
returns c = search unsigned-point
