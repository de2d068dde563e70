use Prim.Native.Nat.{◌-◌}
use Rattle.fields.specs.Working.Setting.{constants_in}
use lib.ListN.{length}
use mathlib.Core.Path.{◌≡◌}
use Rattle.fields.proofs.constants.constants.Given as goal

abbrev pub invariant-loop-index : goal.invariant-loop-index
invariant-loop-index l = (length l.consts ≡ length l.initial.consts) × (length l.places ≡ length l.initial.places) × (constants_in l.s l.consts l.places l.index.count l.index.end l.t ≡ constants_in l.s l.initial.consts l.initial.places 0 l.start l.initial.t)

abbrev pub decreases-loop-index : goal.decreases-loop-index
decreases-loop-index l = 16 - l.index.count
