use Rattle.pattern.specs.Working.Sim.{way-runs-empty, way-runs-end, way-runs-from, way-runs-start}
use Rattle.pattern.proofs.run.runs.Goals.{then-f-via-then-f, then-f-via-else-f+then-f-2}
use Rattle.pattern.proofs.run.runs.Goals as goal

pub returns-then-s-eq0 : goal.returns-then-s-eq0
returns-then-s-eq0 c = search way-runs-empty

pub returns-then-f : goal.returns-then-f
returns-then-f c = elim c.then-f.branch [
  | then-f-via-then-f w ↦ search way-runs-start
  | then-f-via-else-f+then-f-2 w ↦ search way-runs-end
]

pub returns : goal.returns
returns c = search way-runs-from
