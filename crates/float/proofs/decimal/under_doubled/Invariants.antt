use Rattle.float.specs.Working.Converting.{Level}
use Prim.Native.Nat.{◌+◌, ◌-◌, ◌≤◌, ◌<◌}
use Rattle.float.proofs.decimal.under_doubled.Given as goal

abbrev pub invariant-loop-b : goal.invariant-loop-b
invariant-loop-b l = (0 < l.b) × (l.b ≤ 2000000000000000000) × (125 ≤ l.j) × (Level l.j l.c l.b)

abbrev pub decreases-loop-b : goal.decreases-loop-b
decreases-loop-b l = l.a + 1 - l.b
