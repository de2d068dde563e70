use Rattle.pattern.specs.Working.Sim.{way_step}
use Rattle.pattern.proofs.run.Pattern.step.Goals as goal

pub returns : goal.returns
returns c = search way_step
