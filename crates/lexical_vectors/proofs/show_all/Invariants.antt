use Rattle.std.specs.Prelude.{◌-◌, ◌≤◌, length}
use Rattle.lexical_vectors.proofs.show_all.Given as goal

abbrev pub invariant-loop-i : goal.invariant-loop-i
invariant-loop-i g l = l.n ≤ length l.text

abbrev pub decreases-loop-i : goal.decreases-loop-i
decreases-loop-i g l = length l.d - l.i
