use Rattle.std.proofs.Common.{◌≡◌, rules, Err}
use Rattle.record.specs.Working.Groups.{items-end, items-full, items-error, items-next}
use Rattle.record.proofs.items.Goals as goal

pub returns-then-table-i : goal.returns-then-table-i
returns-then-table-i c = search items-full

pub returns-in_err-step : goal.returns-in_err-step
returns-in_err-step c =
    let x : c.from_residual.result ≡ Err c.in_err-step.field-0.0 = search rules in
    items-error _ _ _ _ _ _ _ _ _ c.loop.invariant c.loop-test.true c.if-table-i.false _ c.item.ensures _ (c.in_err-step.was {u = tt}) _ x

pub loop-preserved : goal.loop-preserved
loop-preserved c = items-next _ _ _ _ _ _ _ _ _ c.loop.invariant c.loop-test.true c.if-table-i.false _ c.item.ensures _ (c.in_ok-step.was {u = tt})

pub returns : goal.returns
returns c = items-end c.args.group c.args.s.now c.args.from c.args.n c.loop.counter c.loop.i c.loop.table c.loop.next.at _ c.loop.invariant c.loop-test.false
