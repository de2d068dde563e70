use lib.Seq.{sets}
use Prim.Native.Nat.{◌+◌, ◌≤◌}
use Rattle.lexical.specs.Literal.{units_at, given}
use lib.ListN.{length}
use Prim.Native.Nat.{◌-◌}
use mathlib.Core.Path.{◌≡◌}
use Rattle.lexical.proofs.literal.write.Given as goal

abbrev pub invariant-loop-width : goal.invariant-loop-width
invariant-loop-width l = (sets l.buf l.top (given (units_at l.s l.i)) ≡ sets l.initial.buf l.at (given (units_at l.s l.from))) × (l.top + length (given (units_at l.s l.i)) ≤ length l.buf)

abbrev pub decreases-loop-width : goal.decreases-loop-width
decreases-loop-width l = length l.s - l.i
