use Rattle.pattern.specs.Working.Sim.{way-one-even, way-one-not, way-one-visit}
use Rattle.pattern.proofs.run.Pattern.sweep_one.Goals.{else-x-eq1-via-then-x-eq1+else-accepts_at, else-x-eq1-via-else-x-eq1}
use Rattle.pattern.proofs.run.Pattern.sweep_one.Goals as goal

pub returns-then-accepts_at : goal.returns-then-accepts_at
returns-then-accepts_at c = search way-one-visit

pub returns : goal.returns
returns c = elim c.else-x-eq1.branch [
  | else-x-eq1-via-then-x-eq1+else-accepts_at w ↦ search way-one-not
  | else-x-eq1-via-else-x-eq1 w ↦ search way-one-even
]
