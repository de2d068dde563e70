use mathlib.Core.Path.{◌≡◌}
use Rattle.register.specs.Working.Places.{free_from}
use Rattle.register.proofs.places.free.Given as goal

abbrev pub invariant-loop-i : goal.invariant-loop-i
invariant-loop-i l = free_from l.r.places l.i ≡ free_from l.r.places 0
