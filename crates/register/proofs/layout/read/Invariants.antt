use mathlib.Core.Path.{◌≡◌}
use Prim.Native.Nat.{◌-◌, ◌+◌, ◌*◌}
use lib.ListN.{length}
use Rattle.register.specs.Layout.{entries_at}
use Rattle.register.specs.Working.Ties.{entries_in}
use Rattle.register.proofs.layout.read.Given as goal

abbrev pub invariant-loop-i : goal.invariant-loop-i
invariant-loop-i l = (length l.places ≡ 64) × (entries_in (64 - l.i) l.places l.i ≡ entries_at (64 - l.i) l.s (9 + l.i * 13))
