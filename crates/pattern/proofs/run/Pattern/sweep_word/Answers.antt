use Rattle.pattern.specs.Working.Sim.{way-sweep-none}
use Rattle.pattern.proofs.run.Pattern.sweep_word.Goals as goal

pub returns-then-word-eq0 : goal.returns-then-word-eq0
returns-then-word-eq0 c = search way-sweep-none
