use Rattle.std.proofs.lemmas.Result.{err_from_is_err_and}
use Rattle.naming.specs.Working.ListWays.{leads-here, literal-asked, literals-aside, literals-stuck, literals-more, literals-less}
use borrow.Author.Rules.{rules}
use Rattle.naming.proofs.list.literals.Goals as goal

pub loop-state-init : goal.loop-state-init
loop-state-init c = (search rules, search rules, search rules, leads-here _ _ _ _ _ _)

pub literal_before-requires : goal.literal_before-requires
literal_before-requires c = search literal-asked

pub returns-in_err-one : goal.returns-in_err-one
returns-in_err-one c =
    let p = err_from_is_err_and c.from_residual.result c.from_residual.ensures.1 in
    let w = c.in_err-one.was {u = tt} in rw (p.1, p.2) (search (literals-aside, w))

pub shape_of-pool-then-rest : goal.shape_of-pool-then-rest
shape_of-pool-then-rest c = let w = c.loop-state.invariant.0 in search rules

pub shape_of-places-then-rest : goal.shape_of-places-then-rest
shape_of-places-then-rest c = let w = c.loop-state.invariant.1 in search rules

pub shape_of-code-then-rest : goal.shape_of-code-then-rest
shape_of-code-then-rest c = let w = c.loop-state.invariant.2 in search rules

pub returns-then-rest : goal.returns-then-rest
returns-then-rest c = literals-stuck _ _ _ _ _ _ _ _ _ _ _ c.loop-state.invariant.3 _ c.is_whole.ensures c.if-not-is_whole.false _ c.token_at-n.ensures c.if-n-ne-COMMA.false _ _ _ _ c.literal_before.ensures _ (c.in_ok-one.was {u = tt}) _ _ c.rest.ensures c.rest-in-loop-state.ensures c.if-rest.true

pub loop-state-smaller : goal.loop-state-smaller
loop-state-smaller c = literals-less _ _ _ _ _ _ _ _ _ _ _ c.loop-state.invariant.3 _ c.is_whole.ensures c.if-not-is_whole.false _ c.token_at-n.ensures c.if-n-ne-COMMA.false _ _ _ _ c.literal_before.ensures _ (c.in_ok-one.was {u = tt}) _ _ c.rest.ensures c.rest-in-loop-state.ensures c.if-rest.false

pub loop-state-preserved : goal.loop-state-preserved
loop-state-preserved c = ((let w = c.loop-state.invariant.0 in search rules), (let w = c.loop-state.invariant.1 in search rules), (let w = c.loop-state.invariant.2 in search rules), literals-more _ _ _ _ _ _ _ _ _ _ _ c.loop-state.invariant.3 _ c.is_whole.ensures c.if-not-is_whole.false _ c.token_at-n.ensures c.if-n-ne-COMMA.false _ _ _ _ c.literal_before.ensures _ (c.in_ok-one.was {u = tt}) _ _ c.rest.ensures c.rest-in-loop-state.ensures _ c.if-rest.false c.token_at-t.ensures)
