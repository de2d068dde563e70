use mathlib.Core.Path.{◌≡◌}
use Prim.Native.Nat.{◌+◌, ◌≤◌}
use Rattle.register.specs.Working.Places.{sum_from, sum}
use Rattle.register.proofs.places.covered.Given as goal

abbrev pub invariant-loop-p : goal.invariant-loop-p
invariant-loop-p l = (l.total ≤ l.r.issued) × (l.total + sum_from l.r.places l.p-index ≡ sum l.r.places)
