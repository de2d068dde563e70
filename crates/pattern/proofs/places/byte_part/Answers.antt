use Rattle.pattern.specs.Working.Places.{byte_part, way-byte}
use Rattle.pattern.proofs.places.byte_part.Goals as goal

pub returns : goal.returns
unfolding byte_part
returns c = search way-byte
