use Rattle.pattern.specs.Working.Places.{choice, way-choice}
use Rattle.pattern.proofs.places.choice.Goals as goal

pub returns : goal.returns
unfolding choice
returns c = search way-choice
