use mathlib.Core.Path.{◌≡◌}
use Prim.Native.Nat.{◌-◌, ◌≤◌}
use lib.ListN.{length, drop}
use Rattle.machine.specs.Working.Machine.{go_on}
use Rattle.machine.proofs.passed.Given as goal

abbrev pub invariant-loop-j : goal.invariant-loop-j
invariant-loop-j l = (l.k ≤ l.j) × (go_on l.k l.known l.j (drop l.j l.code) ≡ go_on 0 l.from l.from (drop l.from l.code))

abbrev pub decreases-loop-j : goal.decreases-loop-j
decreases-loop-j l = length l.code - l.j
