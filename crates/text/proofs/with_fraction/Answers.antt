use Rattle.text.specs.Working.Deciding.{fraction-all}
use Rattle.text.proofs.with_fraction.Goals as goal

pub returns : goal.returns
returns c = search fraction-all
