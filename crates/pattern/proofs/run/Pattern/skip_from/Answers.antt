use Rattle.pattern.specs.Working.Skip.{same_places, way-from-skip, way-from-here}
use Rattle.pattern.proofs.run.Pattern.skip_from.Goals as goal

pub returns-then-same_places : goal.returns-then-same_places
unfolding same_places
returns-then-same_places c = search way-from-skip

pub returns-else-same_places : goal.returns-else-same_places
unfolding same_places
returns-else-same_places c = search way-from-here
