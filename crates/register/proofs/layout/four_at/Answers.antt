use Rattle.register.specs.Working.Bytes.{four-read, four-few}
use Rattle.register.proofs.layout.four_at.Goals as goal

pub returns : goal.returns
returns c = (search four-read, search four-few)
