use mathlib.Core.Path.{◌≡◌}
use Rattle.register.specs.Working.Places.{distinct_from}
use Rattle.register.proofs.places.all_distinct.Given as goal

abbrev pub invariant-loop-i : goal.invariant-loop-i
invariant-loop-i l = distinct_from l.r.places l.i ≡ distinct_from l.r.places 0
