use mathlib.Core.Path.{◌≡◌}
use mathlib.Core.List.{map}
use Prim.Native.Nat.{◌+◌, ◌≤◌}
use lib.ListN.{length}
use Rattle.text.specs.Counted.{counted}
use Rattle.text.specs.Join.{joined}
use Rattle.constants.specs.Working.Writing.{size_rest}
use Rattle.constants.proofs.joined_length.Given as goal

abbrev pub invariant-loop-i : goal.invariant-loop-i
invariant-loop-i l = (l.n ≤ 65535) × (l.n + size_rest l.s l.places l.i ≡ length (joined (map (counted l.s) l.places)))
