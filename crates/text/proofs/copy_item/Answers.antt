use Rattle.text.specs.Working.Joining.{item-first, item-end, item-put, item-none}
use Rattle.text.proofs.copy_item.Goals as goal

pub returns-then-i-eq0 : goal.returns-then-i-eq0
returns-then-i-eq0 c = search item-first

pub returns-then-dst-at : goal.returns-then-dst-at
returns-then-dst-at c = search item-end

pub returns-then-copy_at : goal.returns-then-copy_at
returns-then-copy_at c = search item-put

pub returns : goal.returns
returns c = search item-none
