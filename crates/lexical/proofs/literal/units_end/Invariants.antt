use Rattle.lexical.specs.Literal.{literal_end}
use lib.ListN.{length}
use Prim.Native.Nat.{◌-◌}
use mathlib.Core.Path.{◌≡◌}
use Rattle.lexical.proofs.literal.units_end.Given as goal

abbrev pub invariant-loop-width : goal.invariant-loop-width
invariant-loop-width l = literal_end l.s l.i ≡ literal_end l.s l.from

abbrev pub decreases-loop-width : goal.decreases-loop-width
decreases-loop-width l = length l.s - l.i
