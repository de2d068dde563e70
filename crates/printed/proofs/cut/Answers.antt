use Rattle.printed.specs.Working.Filling.{cut_is}
use Rattle.printed.proofs.cut.Goals as goal

pub returns : goal.returns
returns c = search cut_is
