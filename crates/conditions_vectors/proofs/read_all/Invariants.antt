use Rattle.std.specs.Prelude.{◌≤◌}
use Rattle.conditions_vectors.proofs.read_all.Given as goal

abbrev pub invariant-loop-i : goal.invariant-loop-i
invariant-loop-i g l = l.from ≤ l.i
