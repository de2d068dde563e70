use Rattle.register.specs.Working.Bytes.{write_done}
use Rattle.register.proofs.layout.write.Goals as goal

pub returns : goal.returns
returns c = search write_done
