use Rattle.std.proofs.Common.{◌≡◌}
use Rattle.text.specs.Working.Blocks.{alike}
use Rattle.text.proofs.same_part.Given as goal

abbrev pub invariant-loop-j : goal.invariant-loop-j
invariant-loop-j l = l.same ≡ alike l.a l.b l.i l.j
