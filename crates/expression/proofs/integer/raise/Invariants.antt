use mathlib.Core.Path.{◌≡◌}
use Prim.Native.Nat.{◌≤◌}
use Rattle.expression.specs.Integers.{raised_to}
use Rattle.expression.proofs.integer.raise.Given as goal

abbrev pub invariant-loop-left : goal.invariant-loop-left
invariant-loop-left l = (l.v ≤ 2147483648) × (raised_to l.v l.x l._left ≡ raised_to 1 l.x l.n)
