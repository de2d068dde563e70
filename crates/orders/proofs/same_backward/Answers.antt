use Rattle.std.proofs.Common.{rules, arith}
use Rattle.text.specs.Working.Backward.{same_start}
use Rattle.orders.specs.Working.Comparing.{front_long, back-unlike, back-like, back_done}
use Rattle.orders.proofs.same_backward.Goals as goal

pub returns-then-a-b : goal.returns-then-a-b
returns-then-a-b c = search front_long

pub loop-i-init : goal.loop-i-init
loop-i-init c = (omega arith, search (rules, same_start))

pub returns-then-a-i : goal.returns-then-a-i
returns-then-a-i c = search (rules, back-unlike)

pub loop-i-preserved : goal.loop-i-preserved
loop-i-preserved c = (omega arith, search (rules, back-like))

pub returns : goal.returns
returns c = search (rules, back_done)
