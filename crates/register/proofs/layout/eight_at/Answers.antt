use Rattle.register.specs.Working.Bytes.{eight-read}
use Rattle.register.proofs.layout.eight_at.Goals as goal

pub returns : goal.returns
returns c = search eight-read
