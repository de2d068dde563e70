use mathlib.Core.Bool.{true}
use mathlib.Core.Path.{◌≡◌}
use Prim.Native.Nat.{◌-◌, ◌≤◌}
use lib.ListN.{take, drop}
use Rattle.text.specs.All.{all}
use Rattle.naming.specs.Working.Whole.{clear}
use Rattle.naming.proofs.whole.is_clear_short.Given as goal

abbrev pub invariant-loop-a : goal.invariant-loop-a
invariant-loop-a l = (l.i ≤ l.a) × (l.a ≤ l.e) × (all clear (take (l.a - l.i) (drop l.i l.s)) ≡ true)
