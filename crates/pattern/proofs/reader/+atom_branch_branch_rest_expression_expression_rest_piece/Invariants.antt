use Rattle.pattern.specs.Working.Parse.{branch_rest, branch_rest_at, expr_rest, expr_rest_at}
use Prim.Native.Nat.{◌-◌}
use lib.ListN.{length}
use mathlib.Core.Path.{◌≡◌}
use Rattle.pattern.proofs.reader.+atom_branch_branch_rest_expression_expression_rest_piece.Given as goal

abbrev pub decreases-atom : goal.decreases-atom
decreases-atom l = l.d

abbrev pub decreases-branch : goal.decreases-branch
decreases-branch l = l.d

abbrev pub decreases-branch_rest : goal.decreases-branch_rest
decreases-branch_rest l = l.d

abbrev pub decreases-expression : goal.decreases-expression
decreases-expression l = l.d

abbrev pub decreases-expression_rest : goal.decreases-expression_rest
decreases-expression_rest l = l.d

abbrev pub decreases-piece : goal.decreases-piece
decreases-piece l = l.d

abbrev pub invariant-branch_rest-loop-i : goal.invariant-branch_rest-loop-i
invariant-branch_rest-loop-i l = (length l.t ≡ length l.initial.t) × (branch_rest (l.d - 1) l.p l.part l.i l.t ≡ branch_rest_at l.d l.p l.initial.part l.from l.initial.t)

abbrev pub decreases-branch_rest-loop-i : goal.decreases-branch_rest-loop-i
decreases-branch_rest-loop-i l = length l.p - l.i

abbrev pub invariant-expression_rest-loop-i : goal.invariant-expression_rest-loop-i
invariant-expression_rest-loop-i l = (length l.t ≡ length l.initial.t) × (expr_rest (l.d - 1) l.p l.part l.i l.t ≡ expr_rest_at l.d l.p l.initial.part l.from l.initial.t)

abbrev pub decreases-expression_rest-loop-i : goal.decreases-expression_rest-loop-i
decreases-expression_rest-loop-i l = length l.p - l.i
