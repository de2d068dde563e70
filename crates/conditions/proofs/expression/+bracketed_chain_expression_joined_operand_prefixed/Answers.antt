use Rattle.std.proofs.lemmas.Result.{err_from_is_err_and}
use Rattle.conditions.proofs.ExpressionWays.{bracketed-0, bracketed-full, bracketed-aside, bracketed-found, chain-0, chain-start, chain-other, chain-aside, chain-stuck, chain_more, chain-end, expr-0, expr-aside, expr-found, joined-0, joined-aside, joined-found, operand-0, operand-prefixed, operand-bracketed, operand-leaf, operand-not, prefixed-0, prefixed-row, prefixed-aside, prefixed-found}
use borrow.Author.Rules.{rules}
use Rattle.conditions.proofs.expression.+bracketed_chain_expression_joined_operand_prefixed.Goals as goal

pub bracketed-returns-then-d-eq0 : goal.bracketed-returns-then-d-eq0
bracketed-returns-then-d-eq0 t c = search bracketed-0

pub bracketed-returns-then-nest-ge-MOST_BRACKETS : goal.bracketed-returns-then-nest-ge-MOST_BRACKETS
bracketed-returns-then-nest-ge-MOST_BRACKETS t c = search bracketed-full

pub bracketed-returns : goal.bracketed-returns
bracketed-returns t c = let w = c.in_ok-q.was {u = tt} in search (bracketed-found, w)

pub bracketed-returns-in_err-q : goal.bracketed-returns-in_err-q
bracketed-returns-in_err-q t c =
    let p = err_from_is_err_and c.from_residual.result c.from_residual.ensures.1 in
    let w = c.in_err-q.was {u = tt} in rw (p.1, p.2) (search (bracketed-aside, w))

pub chain-returns-then-d-eq0 : goal.chain-returns-then-d-eq0
chain-returns-then-d-eq0 t c = search chain-0

pub chain-loop-t-init : goal.chain-loop-t-init
chain-loop-t-init t c = (search rules, search chain-start)

pub chain-returns-then-is_loose : goal.chain-returns-then-is_loose
chain-returns-then-is_loose t c = search chain-other

pub chain-returns-then-q-t : goal.chain-returns-then-q-t
chain-returns-then-q-t t c = let w = c.in_ok-q.was {u = tt} in search (chain-stuck, w)

pub chain-returns-in_err-q : goal.chain-returns-in_err-q
chain-returns-in_err-q t c =
    let p = err_from_is_err_and c.from_residual.result c.from_residual.ensures.1 in
    let w = c.in_err-q.was {u = tt} in rw (p.1, p.2) (search (chain-aside, w))

pub chain-loop-t-preserved : goal.chain-loop-t-preserved
chain-loop-t-preserved t c = let w = c.in_ok-q.was {u = tt} in (search rules, search (chain_more, w))

pub chain-returns : goal.chain-returns
chain-returns t c = search chain-end

pub expression-returns-then-d-eq0 : goal.expression-returns-then-d-eq0
expression-returns-then-d-eq0 t c = search expr-0

pub expression-returns : goal.expression-returns
expression-returns t c = let w = c.in_ok-q.was {u = tt} in search (expr-found, w)

pub expression-returns-in_err-q : goal.expression-returns-in_err-q
expression-returns-in_err-q t c =
    let p = err_from_is_err_and c.from_residual.result c.from_residual.ensures.1 in
    let w = c.in_err-q.was {u = tt} in rw (p.1, p.2) (search (expr-aside, w))

pub joined-returns-then-d-eq0 : goal.joined-returns-then-d-eq0
joined-returns-then-d-eq0 t c = search joined-0

pub joined-returns : goal.joined-returns
joined-returns t c = let w = c.in_ok-q.was {u = tt} in search (joined-found, w)

pub joined-returns-in_err-q : goal.joined-returns-in_err-q
joined-returns-in_err-q t c =
    let p = err_from_is_err_and c.from_residual.result c.from_residual.ensures.1 in
    let w = c.in_err-q.was {u = tt} in rw (p.1, p.2) (search (joined-aside, w))

pub operand-returns-then-d-eq0 : goal.operand-returns-then-d-eq0
operand-returns-then-d-eq0 t c = search operand-0

pub operand-returns-then-o-ne-NONE : goal.operand-returns-then-o-ne-NONE
operand-returns-then-o-ne-NONE t c = search operand-prefixed

pub operand-returns-then-t-eq-OPEN : goal.operand-returns-then-t-eq-OPEN
operand-returns-then-t-eq-OPEN t c = search operand-bracketed

pub operand-returns-then-is_allowed : goal.operand-returns-then-is_allowed
operand-returns-then-is_allowed t c = search operand-leaf

pub operand-returns : goal.operand-returns
operand-returns t c = search operand-not

pub prefixed-returns-then-d-eq0 : goal.prefixed-returns-then-d-eq0
prefixed-returns-then-d-eq0 t c = search prefixed-0

pub prefixed-returns-then-row-ge-MOST_PREFIXES : goal.prefixed-returns-then-row-ge-MOST_PREFIXES
prefixed-returns-then-row-ge-MOST_PREFIXES t c = search prefixed-row

pub prefixed-returns : goal.prefixed-returns
prefixed-returns t c = let w = c.in_ok-q.was {u = tt} in search (prefixed-found, w)

pub prefixed-returns-in_err-q : goal.prefixed-returns-in_err-q
prefixed-returns-in_err-q t c =
    let p = err_from_is_err_and c.from_residual.result c.from_residual.ensures.1 in
    let w = c.in_err-q.was {u = tt} in rw (p.1, p.2) (search (prefixed-aside, w))
