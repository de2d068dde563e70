use Rattle.printed.specs.Working.Adding.{say-both}
use Rattle.printed.proofs.say.Goals as goal

pub returns : goal.returns
returns c = search say-both
