use Rattle.register.proofs.Working.Operations.{pass-tells}
use Rattle.register.proofs.pass.Goals as goal

pub returns : goal.returns
returns c = search pass-tells
