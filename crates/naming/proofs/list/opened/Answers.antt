use Rattle.std.proofs.lemmas.Result.{err_from_is_err_and}
use Rattle.naming.specs.Working.ListWays.{opened-not, opened-most, opened-aside, opened-list}
use Rattle.naming.proofs.list.opened.Goals as goal

pub returns-then-t-ne-OPEN : goal.returns-then-t-ne-OPEN
returns-then-t-ne-OPEN c = search opened-not

pub returns-then-left-eq0 : goal.returns-then-left-eq0
returns-then-left-eq0 c = search opened-most

pub returns-in_err-first : goal.returns-in_err-first
returns-in_err-first c =
    let p = err_from_is_err_and c.from_residual.result c.from_residual.ensures.1 in
    let w = c.in_err-first.was {u = tt} in rw (p.1, p.2) (search (opened-aside, w))

pub returns : goal.returns
returns c = opened-list _ _ _ _ _ _ _ _ _ c.if-t-ne-OPEN.false c.if-left-eq0.false _ c.token_at-n.ensures _ _ _ _ c.literals.ensures _ (c.in_ok-first.was {u = tt}) _ c.list.ensures
