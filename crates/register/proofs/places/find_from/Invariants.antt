use mathlib.Core.Path.{◌≡◌}
use Prim.Native.Nat.{◌≤◌}
use Rattle.register.specs.Working.Places.{find_from}
use Rattle.register.proofs.places.find_from.Given as goal

abbrev pub invariant-loop-i : goal.invariant-loop-i
invariant-loop-i l = (l.work ≤ l.i) × (find_from l.r.places l.principal l.i l.work ≡ find_from l.r.places l.principal l.from 0)
