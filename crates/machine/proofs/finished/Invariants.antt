use mathlib.Core.Path.{◌≡◌}
use Prim.Native.Nat.{◌-◌, ◌≤◌}
use lib.ListN.{length, drop}
use Rattle.machine.specs.Working.Machine.{ended}
use Rattle.machine.proofs.finished.Given as goal

abbrev pub invariant-loop-j : goal.invariant-loop-j
invariant-loop-j l = (l.k ≤ l.j) × (ended l.k l.j (drop l.j l.code) ≡ ended 0 l.from (drop l.from l.code))

abbrev pub decreases-loop-j : goal.decreases-loop-j
decreases-loop-j l = length l.code - l.j
