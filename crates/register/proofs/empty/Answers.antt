use mathlib.Core.Path.{refl}
use Rattle.register.specs.Entries.{empty}
use Rattle.register.specs.Told.{contents}
use Rattle.register.proofs.empty.Goals as goal

pub returns : goal.returns
unfolding contents empty
returns c = refl
