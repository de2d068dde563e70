use Rattle.float.specs.Working.Reading.{unsigned-none, unsigned-all, unsigned-other, unsigned-point, digits-all, no-digits, digits-front}
use Rattle.text.specs.Working.Deciding.{front-room}
use borrow.Author.Rules.{rules}
use Rattle.float.proofs.written.without_sign.Goals as goal

-- src/lib.rt:74:9
pub returns-then-k-eq0 : goal.returns-then-k-eq0
returns-then-k-eq0 c = search unsigned-none

-- src/lib.rt:78:9
pub amount-requires : goal.amount-requires
amount-requires c = (search digits-all, search no-digits)

-- src/lib.rt:78:9
pub returns-then-s-k : goal.returns-then-s-k
returns-then-s-k c = search unsigned-all

-- src/lib.rt:81:9
pub returns-then-s-k-ne46 : goal.returns-then-s-k-ne46
returns-then-s-k-ne46 c = search unsigned-other

-- src/lib.rt:83:29
pub slice_bounds-with_fraction-end : goal.slice_bounds-with_fraction-end
slice_bounds-with_fraction-end c = search (rules, front-room)

-- src/lib.rt:83:5
pub with_fraction-requires : goal.with_fraction-requires
with_fraction-requires c = search digits-front

-- src/lib.rt:69:1
pub returns : goal.returns
returns c = search unsigned-point
