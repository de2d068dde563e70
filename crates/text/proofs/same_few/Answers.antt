use Rattle.std.proofs.Common.{rules}
use Rattle.text.specs.Working.Backward.{same_start, same-unlike, same-like, same_none}
use Rattle.text.proofs.same_few.Goals as goal

pub loop-i-init : goal.loop-i-init
loop-i-init c = search (rules, same_start)

pub returns-then-a-i : goal.returns-then-a-i
returns-then-a-i c = search (rules, same-unlike)

pub loop-i-preserved : goal.loop-i-preserved
loop-i-preserved c = search (rules, same-like)

pub returns : goal.returns
returns c = search (rules, same_none)
