use Rattle.assertion.specs.Working.ReadingWays.{kept-given, kept-missing}
use Rattle.assertion.proofs.kept.Goals as goal
use Rattle.assertion.proofs.kept.Goals.{then-d, else-d}

pub returns : goal.returns
returns c = elim c.if-d.branch [
  | then-d w ↦ rw (w.code-is, w.size-is) (kept-given _ _ w.if-d.true)
  | else-d w ↦ rw (w.code-is, w.size-is) (search kept-missing)
]
