use Rattle.std.proofs.lemmas.Result.{err_from_is_err_and}
use Rattle.naming.specs.Working.ListWays.{plain-asked}
use Rattle.naming.specs.Working.ChainWays.{more-again, more-less, chain-aside, chain-on, more-aside, more-end, more-stuck, operand-chain, operand-primary, operand-name, operand-literal, primary-aside, primary-digits, primary-most, primary-open, primary-longer, primary-on, primary-one}
use borrow.Author.Rules.{rules}
use Rattle.naming.proofs.licensees.+chain_more_operand_primary.Goals as goal

pub chain-more-requires : goal.chain-more-requires
chain-more-requires t c = let w = c.requires in search rules

pub chain-returns-in_err-one : goal.chain-returns-in_err-one
chain-returns-in_err-one t c =
    let p = err_from_is_err_and c.from_residual.result c.from_residual.ensures.1 in
    let w = c.in_err-one.was {u = tt} in rw (p.1, p.2) (search (chain-aside, w))

pub chain-returns : goal.chain-returns
chain-returns t c = let w = c.in_ok-one.was {u = tt} in search (chain-on, w)

pub more-returns-in_err-one : goal.more-returns-in_err-one
more-returns-in_err-one t c =
    let p = err_from_is_err_and c.from_residual.result c.from_residual.ensures.1 in
    let w = c.in_err-one.was {u = tt} in rw (p.1, p.2) (search (more-aside, w))

pub more-shape_of-pool-then-rest : goal.more-shape_of-pool-then-rest
more-shape_of-pool-then-rest t c = let w = c.loop-t.invariant.0 in search rules

pub more-shape_of-places-then-rest : goal.more-shape_of-places-then-rest
more-shape_of-places-then-rest t c = let w = c.loop-t.invariant.1 in search rules

pub more-shape_of-code-then-rest : goal.more-shape_of-code-then-rest
more-shape_of-code-then-rest t c = let w = c.loop-t.invariant.2 in search rules

pub more-returns-then-rest : goal.more-returns-then-rest
more-returns-then-rest t c = let f = more-stuck _ _ _ _ _ _ _ _ _ _ c.loop-t.invariant.3 _ c.joint_of-joint.ensures c.loop-t-test.true _ c.token_at-n.ensures _ _ _ _ c.operand.ensures in let w = c.in_ok-one.was {u = tt} in search (f, w)

pub more-loop-t-smaller : goal.more-loop-t-smaller
more-loop-t-smaller t c = let f = more-less _ _ _ _ _ _ _ _ _ _ c.loop-t.invariant.3 _ c.joint_of-joint.ensures c.loop-t-test.true _ c.token_at-n.ensures _ _ _ _ c.operand.ensures in let w = c.in_ok-one.was {u = tt} in search (f, w)

pub more-loop-t-preserved : goal.more-loop-t-preserved
more-loop-t-preserved t c = ((let w = c.loop-t.invariant.0 in search rules), (let w = c.loop-t.invariant.1 in search rules), (let w = c.loop-t.invariant.2 in search rules), (let f = more-again _ _ _ _ _ _ _ _ _ _ c.loop-t.invariant.3 _ c.joint_of-joint.ensures c.loop-t-test.true _ c.token_at-n.ensures _ _ _ _ c.operand.ensures in let w = c.in_ok-one.was {u = tt} in search (f, w)))

pub more-returns : goal.more-returns
more-returns t c = search more-end

pub operand-returns-then-level-eq0 : goal.operand-returns-then-level-eq0
operand-returns-then-level-eq0 t c = search operand-primary

pub operand-literal_before-requires : goal.operand-literal_before-requires
operand-literal_before-requires t c = search plain-asked

pub operand-returns-then-t-ne-NAME : goal.operand-returns-then-t-ne-NAME
operand-returns-then-t-ne-NAME t c = search operand-literal

pub operand-returns-then-is_plain : goal.operand-returns-then-is_plain
operand-returns-then-is_plain t c = search operand-name

pub operand-returns : goal.operand-returns
operand-returns t c = search operand-chain

pub primary-returns-then-t-eq-DIGITS : goal.primary-returns-then-t-eq-DIGITS
primary-returns-then-t-eq-DIGITS t c = search primary-digits

pub primary-returns-then-t-ne-OPEN : goal.primary-returns-then-t-ne-OPEN
primary-returns-then-t-ne-OPEN t c = search primary-one

pub primary-returns-then-left-eq0 : goal.primary-returns-then-left-eq0
primary-returns-then-left-eq0 t c = search primary-most

pub primary-shape_of-pool-then-is_longer : goal.primary-shape_of-pool-then-is_longer
primary-shape_of-pool-then-is_longer t c = let v = c.chain.new in let w = c.chain.auto in search rules

pub primary-shape_of-places-then-is_longer : goal.primary-shape_of-places-then-is_longer
primary-shape_of-places-then-is_longer t c = let v = c.chain.new in let w = c.chain.auto in search rules

pub primary-shape_of-code-then-is_longer : goal.primary-shape_of-code-then-is_longer
primary-shape_of-code-then-is_longer t c = let v = c.chain.new in let w = c.chain.auto in search rules

pub primary-returns-then-is_longer : goal.primary-returns-then-is_longer
primary-returns-then-is_longer t c = let a = c.if-t-eq-DIGITS.false in let b = c.if-t-ne-OPEN.false in let d = c.if-left-eq0.false in let e = c.token_at-n.ensures in let f = c.chain.ensures in let v = c.in_ok-held.was {u = tt} in let w = c.in_ok-behind.was {u = tt} in search (primary-longer, v, w)

pub primary-returns-in_err-held : goal.primary-returns-in_err-held
primary-returns-in_err-held t c =
    let p = err_from_is_err_and c.from_residual.result c.from_residual.ensures.1 in
    let w = c.in_err-held.was {u = tt} in rw (p.1, p.2) (search (primary-aside, w))

pub primary-returns-in_err-behind : goal.primary-returns-in_err-behind
primary-returns-in_err-behind t c =
    let p = err_from_is_err_and c.from_residual-in_err-behind.result c.from_residual-in_err-behind.ensures.1 in
    let v = c.in_ok-held.was {u = tt} in
    let w = c.in_err-behind.was {u = tt} in
    let a = c.if-t-eq-DIGITS.false in let b = c.if-t-ne-OPEN.false in let d = c.if-left-eq0.false in let e = c.token_at-n.ensures in let f = c.chain.ensures in rw (p.1, p.2) (search (primary-open, v, w))

pub primary-shape_of-pool : goal.primary-shape_of-pool
primary-shape_of-pool t c = let v = c.chain.new in let w = c.chain.auto in search rules

pub primary-shape_of-places : goal.primary-shape_of-places
primary-shape_of-places t c = let v = c.chain.new in let w = c.chain.auto in search rules

pub primary-shape_of-code : goal.primary-shape_of-code
primary-shape_of-code t c = let v = c.chain.new in let w = c.chain.auto in search rules

pub primary-returns : goal.primary-returns
primary-returns t c = let a = c.if-t-eq-DIGITS.false in let b = c.if-t-ne-OPEN.false in let d = c.if-left-eq0.false in let e = c.token_at-n.ensures in let f = c.chain.ensures in let v = c.in_ok-held.was {u = tt} in let w = c.in_ok-behind.was {u = tt} in search (primary-on, v, w)
