use mathlib.Core.Path.{◌≡◌}
use Prim.Native.Nat.{◌-◌, ◌+◌, ◌*◌}
use lib.ListN.{length}
use Rattle.text.specs.Copy.{put}
use Rattle.register.specs.Layout.{entries_bytes}
use Rattle.register.specs.Working.Ties.{entries_in}
use Rattle.register.proofs.layout.put_places.Given as goal

abbrev pub invariant-loop-i : goal.invariant-loop-i
invariant-loop-i l = (length l.bytes ≡ 841) × (l.bytes ≡ put l.initial.bytes (9 + l.i * 13) (entries_bytes (entries_in (64 - l.i) l.register.places l.i)))
