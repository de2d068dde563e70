use Rattle.pattern.specs.Working.Places.{end_part, nowhere, way_end}
use Rattle.pattern.proofs.places.end_part.Goals as goal

pub returns : goal.returns
unfolding end_part nowhere
returns c = search way_end
