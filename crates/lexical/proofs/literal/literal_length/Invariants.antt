use Prim.Native.Nat.{◌+◌, ◌≤◌}
use Rattle.lexical.specs.Literal.{units_at, given, decoded_at}
use lib.ListN.{length}
use Prim.Native.Nat.{◌-◌}
use mathlib.Core.Path.{◌≡◌}
use Rattle.lexical.proofs.literal.literal_length.Given as goal

abbrev pub invariant-loop-width : goal.invariant-loop-width
invariant-loop-width l = (l.n + length (given (units_at l.s l.i)) ≡ length (decoded_at l.s l.start)) × (l.n ≤ l.i)

abbrev pub decreases-loop-width : goal.decreases-loop-width
decreases-loop-width l = length l.s - l.i
