use Rattle.register.specs.Working.Ways.{known-is, known-not}
use Rattle.register.proofs.known_place.Goals as goal

pub returns-in-At : goal.returns-in-At
returns-in-At c = search known-is

pub returns-in-Missing : goal.returns-in-Missing
returns-in-Missing c = search known-not
