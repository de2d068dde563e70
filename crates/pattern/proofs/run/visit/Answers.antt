use Rattle.pattern.specs.Working.Sim.{way-visit-last, way-visit-on}
use Rattle.pattern.proofs.run.visit.Goals as goal

pub returns-then-last : goal.returns-then-last
returns-then-last c = search way-visit-last

pub returns-else-last : goal.returns-else-last
returns-else-last c = search way-visit-on
