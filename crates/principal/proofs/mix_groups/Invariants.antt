use Rattle.std.proofs.Common.{◌≡◌, ◌+◌, ◌-◌, ◌*◌, ◌<◌}
use Rattle.principal.specs.Tag.{mixed_with}
use Rattle.principal.proofs.mix_groups.Given as goal

abbrev pub invariant-loop-j : goal.invariant-loop-j
invariant-loop-j l = (mixed_with l.id (l.k - l.j) (l.from + 4 * l.j) l.sum ≡ mixed_with l.id l.k l.from l.h) × (l.sum < 4294967296)
