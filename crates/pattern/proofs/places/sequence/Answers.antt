use Rattle.pattern.specs.Working.Places.{sequence, way-sequence}
use Rattle.pattern.proofs.places.sequence.Goals as goal

pub returns : goal.returns
unfolding sequence
returns c = search way-sequence
