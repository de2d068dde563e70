use Rattle.machine.specs.Working.Running.{exec-start, exec-live, push-stuck, push-more, act-stuck, act-more, exec-less, numbers-within, bytes-within}
use borrow.Author.Rules.{rules}
use Rattle.machine.proofs.run_live.Goals as goal

pub loop-i-init : goal.loop-i-init
loop-i-init c = (search rules, (search rules, (search rules, (search rules, search exec-start))))

pub returns-in_err-top : goal.returns-in_err-top
returns-in_err-top c = let w = c.in_err-top.was {u = tt} in rw c.from_residual.ensures (search (push-stuck, w))

pub loop-i-preserved-then-op-le-DECIMAL : goal.loop-i-preserved-then-op-le-DECIMAL
loop-i-preserved-then-op-le-DECIMAL c =
    let w = c.in_ok-top.was {u = tt} in (search rules, (search rules, (search (numbers-within, w), (search (bytes-within, w), search (push-more, w)))))

pub returns-in_err-top-2 : goal.returns-in_err-top-2
returns-in_err-top-2 c = let w = c.in_err-top-2.was {u = tt} in rw c.from_residual-in_err-top-2.ensures (search (act-stuck, w))

pub onward-i-requires : goal.onward-i-requires
onward-i-requires c = let w = c.in_ok-top-2.was {u = tt} in let l : _ = c.act.ensures in search (numbers-within, l, w)

pub loop-i-smaller : goal.loop-i-smaller
loop-i-smaller c = search exec-less

pub loop-i-preserved : goal.loop-i-preserved
loop-i-preserved c =
    let w = c.in_ok-top-2.was {u = tt} in (search rules, (search rules, (search (numbers-within, w), (search (bytes-within, w), search (act-more, w)))))

pub returns : goal.returns
returns c = search exec-live
