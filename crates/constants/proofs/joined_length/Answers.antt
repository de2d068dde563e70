use Rattle.constants.specs.Working.Writing.{size-start, size-end, size-no-comma, size-no-item, size-more}
use borrow.Author.Rules.{rules}
use Rattle.constants.proofs.joined_length.Goals as goal

pub loop-i-init : goal.loop-i-init
loop-i-init c = (search rules, search size-start)

pub returns-then-n-c : goal.returns-then-n-c
returns-then-n-c c = search size-no-comma

pub returns-then-n-c-2 : goal.returns-then-n-c-2
returns-then-n-c-2 c = search size-no-item

pub loop-i-preserved : goal.loop-i-preserved
loop-i-preserved c = (search rules, search size-more)

pub returns : goal.returns
returns c = search size-end
