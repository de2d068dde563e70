use Rattle.register.specs.Working.Ways.{find-whole}
use Rattle.register.proofs.places.place_of.Goals as goal

pub returns : goal.returns
returns c = search find-whole
