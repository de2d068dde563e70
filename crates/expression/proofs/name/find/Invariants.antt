use mathlib.Core.Path.{◌≡◌}
use Prim.Native.Nat.{◌-◌}
use lib.ListN.{length}
use Rattle.expression.specs.Tables.{first_from}
use Rattle.expression.specs.Working.Searching.{first_rest}
use Rattle.expression.proofs.name.find.Given as goal

abbrev pub invariant-loop-i : goal.invariant-loop-i
invariant-loop-i l = first_rest l.s l.name l.places l.i ≡ first_from l.s l.name 0 l.places

abbrev pub decreases-loop-i : goal.decreases-loop-i
decreases-loop-i l = length l.places - l.i
