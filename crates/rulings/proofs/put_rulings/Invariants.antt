use Rattle.std.specs.Prelude.{◌-◌, length}
use Rattle.rulings.proofs.put_rulings.Given as goal

abbrev pub decreases-loop-at : goal.decreases-loop-at
decreases-loop-at g l = length l.file - l.at
