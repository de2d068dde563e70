use Rattle.std.proofs.Common.{◌≡◌, ◌≤◌, take}
use Rattle.text.specs.Equal.{equal}
use Rattle.orders.proofs.same_backward.Given as goal

abbrev pub invariant-loop-i : goal.invariant-loop-i
invariant-loop-i l = (l.low ≤ l.i) × (equal (take l.i l.a) (take l.i l.b) ≡ equal l.a l.b)
