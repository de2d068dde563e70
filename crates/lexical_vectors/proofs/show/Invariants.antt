use Rattle.std.specs.Prelude.{◌-◌, ◌+◌, length}
use Rattle.lexical_vectors.proofs.show.Given as goal

abbrev pub decreases-loop-at : goal.decreases-loop-at
decreases-loop-at g l = length l.s + 1 - l.at
