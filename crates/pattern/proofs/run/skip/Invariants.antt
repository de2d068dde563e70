use Rattle.std.proofs.Common.{◌≡◌}
use Rattle.pattern.specs.Working.Skip.{skipped}
use Rattle.pattern.proofs.run.skip.Given as goal

abbrev pub invariant-loop-i : goal.invariant-loop-i
invariant-loop-i l = skipped l.m l.s l.i ≡ skipped l.m l.s l.from
