use Rattle.std.proofs.Common.{arith, rules}
use Rattle.pattern.specs.Working.Parse.{atom-0, atom-bad, atom-group, atom-one, atom-open, atom-unfit, branch-0, branch-bad, branch-bar, branch-closed, branch-end, branch-more, branch-next, branch-piece-bad, branch-rest-0, branch-start, branch_stuck, expr-0, expr-bad, expr-branch-bad, expr-end, expr-more, expr-next, expr-other, expr-rest-0, expr-start, expr-stuck, piece-0, piece-atom, piece-bad, piece-bol, piece-eol}
use Rattle.pattern.proofs.reader.+atom_branch_branch_rest_expression_expression_rest_piece.Goals.{branch_rest-then-p-i-eq124-via-then-p-i-eq124, branch_rest-then-p-i-eq124-via-else-p-i-eq124+then-p-i-eq41}
use Rattle.pattern.proofs.reader.+atom_branch_branch_rest_expression_expression_rest_piece.Goals as goal

pub atom-returns-then-d-eq0 : goal.atom-returns-then-d-eq0
atom-returns-then-d-eq0 t c = search atom-0

pub atom-returns-in_err-part : goal.atom-returns-in_err-part
atom-returns-in_err-part t c = rw c.from_residual.ensures (atom-bad _ _ _ _ c.if-d-eq0.false _ c.in-Some.ensures _ _ c.expression.ensures c.in_err-part.was)

pub atom-returns-in_err-next : goal.atom-returns-in_err-next
atom-returns-in_err-next t c = rw c.from_residual-in_err-next.ensures (atom-open _ _ _ _ c.if-d-eq0.false _ c.in-Some.ensures _ _ c.expression.ensures _ c.in_ok-part.was c.in_err-next.ensures)

pub atom-returns-in-Some : goal.atom-returns-in-Some
atom-returns-in-Some t c = atom-group _ _ _ _ c.if-d-eq0.false _ c.in-Some.ensures _ _ c.expression.ensures _ c.in_ok-part.was _ c.in_ok-next.ensures

pub atom-returns-in_err-end : goal.atom-returns-in_err-end
atom-returns-in_err-end t c = rw c.from_residual-in_err-end.ensures (atom-unfit _ _ _ _ c.if-d-eq0.false c.in_default.ensures _ c.one_end.ensures c.in_err-end.was)

pub atom-returns : goal.atom-returns
atom-returns t c = atom-one _ _ _ _ c.if-d-eq0.false c.in_default.ensures _ c.one_end.ensures _ c.in_ok-end.was _ c.byte_part.ensures

pub branch-returns-then-d-eq0 : goal.branch-returns-then-d-eq0
branch-returns-then-d-eq0 t c = search branch-0

pub branch-returns-in_err-part : goal.branch-returns-in_err-part
branch-returns-in_err-part t c = rw c.from_residual.ensures (search (branch-bad, c.in_err-part.was))

pub branch-returns : goal.branch-returns
branch-returns t c = search (branch-more, c.in_ok-part.was)

pub branch_rest-returns-then-d-eq0 : goal.branch_rest-returns-then-d-eq0
branch_rest-returns-then-d-eq0 t c = search branch-rest-0

pub branch_rest-loop-i-init : goal.branch_rest-loop-i-init
branch_rest-loop-i-init t c = (search rules, search branch-start)

pub branch_rest-returns-then-p-i-eq124 : goal.branch_rest-returns-then-p-i-eq124
branch_rest-returns-then-p-i-eq124 t c = elim c.then-p-i-eq124.branch [
  | branch_rest-then-p-i-eq124-via-then-p-i-eq124 w ↦ search branch-bar
  | branch_rest-then-p-i-eq124-via-else-p-i-eq124+then-p-i-eq41 w ↦ search branch-closed
]

pub branch_rest-returns-in_err-g : goal.branch_rest-returns-in_err-g
branch_rest-returns-in_err-g t c = rw c.from_residual.ensures (search (branch-piece-bad, c.in_err-g.was))

pub branch_rest-returns-then-next-i : goal.branch_rest-returns-then-next-i
branch_rest-returns-then-next-i t c = search (branch_stuck, c.in_ok-g.was)

pub branch_rest-loop-i-smaller : goal.branch_rest-loop-i-smaller
branch_rest-loop-i-smaller t c = omega (arith, c.if-next-i.false, c.loop-i-test.true)

pub branch_rest-loop-i-preserved : goal.branch_rest-loop-i-preserved
branch_rest-loop-i-preserved t c = (search (rules, c.loop-i.invariant.0, c.piece.auto, c.link.auto), search (branch-next _ _ _ _ _ _ c.loop-i.invariant.1 c.loop-i-test.true c.if-p-i-eq124.false c.if-p-i-eq41.false _ _ c.piece.ensures, c.in_ok-g.was))

pub branch_rest-returns : goal.branch_rest-returns
branch_rest-returns t c = search branch-end

pub expression-returns-then-d-eq0 : goal.expression-returns-then-d-eq0
expression-returns-then-d-eq0 t c = search expr-0

pub expression-returns-in_err-part : goal.expression-returns-in_err-part
expression-returns-in_err-part t c = rw c.from_residual.ensures (search (expr-bad, c.in_err-part.was))

pub expression-returns : goal.expression-returns
expression-returns t c = search (expr-more, c.in_ok-part.was)

pub expression_rest-returns-then-d-eq0 : goal.expression_rest-returns-then-d-eq0
expression_rest-returns-then-d-eq0 t c = search expr-rest-0

pub expression_rest-loop-i-init : goal.expression_rest-loop-i-init
expression_rest-loop-i-init t c = (search rules, search expr-start)

pub expression_rest-returns-then-p-i-ne124 : goal.expression_rest-returns-then-p-i-ne124
expression_rest-returns-then-p-i-ne124 t c = search expr-other

pub expression_rest-returns-in_err-g : goal.expression_rest-returns-in_err-g
expression_rest-returns-in_err-g t c = rw c.from_residual.ensures (search (expr-branch-bad, c.in_err-g.was))

pub expression_rest-returns-then-next-i : goal.expression_rest-returns-then-next-i
expression_rest-returns-then-next-i t c = search (expr-stuck, c.in_ok-g.was)

pub expression_rest-loop-i-preserved : goal.expression_rest-loop-i-preserved
expression_rest-loop-i-preserved t c = (search (rules, c.loop-i.invariant.0), search (expr-next _ _ _ _ _ _ c.loop-i.invariant.1 c.loop-i-test.true c.if-p-i-ne124.false, c.in_ok-g.was))

pub expression_rest-returns : goal.expression_rest-returns
expression_rest-returns t c = search expr-end

pub piece-returns-then-d-eq0 : goal.piece-returns-then-d-eq0
piece-returns-then-d-eq0 t c = search piece-0

pub piece-returns-in-Some : goal.piece-returns-in-Some
piece-returns-in-Some t c = piece-bol _ _ _ _ c.if-d-eq0.false _ c.in-Some.ensures _ c.start_part.ensures

pub piece-returns-in-Some-eat : goal.piece-returns-in-Some-eat
piece-returns-in-Some-eat t c = piece-eol _ _ _ _ c.if-d-eq0.false c.in_default.ensures _ c.in-Some-eat.ensures _ c.end_part.ensures

pub piece-returns-in_err-part : goal.piece-returns-in_err-part
piece-returns-in_err-part t c = rw c.from_residual.ensures (piece-bad _ _ _ _ c.if-d-eq0.false c.in_default.ensures c.in_default-eat.ensures _ _ c.atom.ensures c.in_err-part.was)

pub piece-returns : goal.piece-returns
piece-returns t c = piece-atom _ _ _ _ c.if-d-eq0.false c.in_default.ensures c.in_default-eat.ensures _ _ c.atom.ensures _ c.in_ok-part.was _ c.repeated.ensures
