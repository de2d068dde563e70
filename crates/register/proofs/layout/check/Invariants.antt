use mathlib.Core.Path.{◌≡◌}
use Rattle.register.specs.Working.Bytes.{readable_at, readable}
use Rattle.register.proofs.layout.check.Given as goal

abbrev pub invariant-loop-i : goal.invariant-loop-i
invariant-loop-i l = readable_at l.s l.i ≡ readable l.s
