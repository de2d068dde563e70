use Rattle.pattern.specs.Working.Places.{nowhere, start_part, way-start}
use Rattle.pattern.proofs.places.start_part.Goals as goal

pub returns : goal.returns
unfolding start_part nowhere
returns c = search way-start
