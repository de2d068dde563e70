use Rattle.std.proofs.lemmas.Result.{err_from_is_err_and}
use Rattle.naming.specs.Working.ListWays.{item-less, item-more, item-aside, item-close, item-other, item-stuck}
use borrow.Author.Rules.{rules}
use Rattle.naming.proofs.list.list.Goals as goal

pub returns-in_err-one : goal.returns-in_err-one
returns-in_err-one c =
    let p = err_from_is_err_and c.from_residual.result c.from_residual.ensures.1 in
    let w = c.in_err-one.was {u = tt} in rw (p.1, p.2) (search (item-aside, w))

pub shape_of-pool-then-next-eq-CLOSE : goal.shape_of-pool-then-next-eq-CLOSE
shape_of-pool-then-next-eq-CLOSE c = let w = c.loop-one.invariant.0 in search rules

pub shape_of-places-then-next-eq-CLOSE : goal.shape_of-places-then-next-eq-CLOSE
shape_of-places-then-next-eq-CLOSE c = let w = c.loop-one.invariant.1 in search rules

pub shape_of-code-then-next-eq-CLOSE : goal.shape_of-code-then-next-eq-CLOSE
shape_of-code-then-next-eq-CLOSE c = let w = c.loop-one.invariant.2 in search rules

pub returns-then-next-eq-CLOSE : goal.returns-then-next-eq-CLOSE
returns-then-next-eq-CLOSE c = let i = c.loop-one.invariant.3 in let l = c.licensee.ensures in let u = c.in_ok-one.was {u = tt} in let e = c.if-next-eq-CLOSE.true in let f = c.list_end.ensures in search item-close

pub returns-then-next-ne-COMMA : goal.returns-then-next-ne-COMMA
returns-then-next-ne-COMMA c = let w = c.in_ok-one.was {u = tt} in search (item-other, w)

pub returns-then-rest : goal.returns-then-rest
returns-then-rest c = let w = c.in_ok-one.was {u = tt} in search (item-stuck, w)

pub loop-one-smaller : goal.loop-one-smaller
loop-one-smaller c = item-less _ _ _ _ _ _ _ _ _ _ _ c.loop-one.invariant.3 _ _ _ _ c.licensee.ensures _ (c.in_ok-one.was {u = tt}) c.if-next-eq-CLOSE.false c.if-next-ne-COMMA.false _ _ c.rest.ensures c.rest-in-loop-one.ensures c.if-rest.false

pub loop-one-preserved : goal.loop-one-preserved
loop-one-preserved c = ((let w = c.loop-one.invariant.0 in search rules), (let w = c.loop-one.invariant.1 in search rules), (let w = c.loop-one.invariant.2 in search rules), item-more _ _ _ _ _ _ _ _ _ _ _ c.loop-one.invariant.3 _ _ _ _ c.licensee.ensures _ (c.in_ok-one.was {u = tt}) c.if-next-eq-CLOSE.false c.if-next-ne-COMMA.false _ _ c.rest.ensures c.rest-in-loop-one.ensures _ c.if-rest.false c.token_at-t.ensures)
