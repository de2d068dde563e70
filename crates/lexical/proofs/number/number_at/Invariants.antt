use Rattle.lexical.proofs.NumberWays.{number_rest}
use Rattle.lexical.specs.Number.{LIMIT, number_at}
use Prim.Native.Nat.{◌≤◌, min}
use mathlib.Core.Path.{◌≡◌}
use Rattle.lexical.proofs.number.number_at.Given as goal

abbrev pub invariant-loop-i : goal.invariant-loop-i
invariant-loop-i l = (number_rest l.s l.i l.end l.v ≡ min (number_at l.s l.start l.end) LIMIT) × (l.v ≤ LIMIT)
