use Rattle.register.proofs.Working.Operations.{remove-tells}
use Rattle.register.proofs.remove.Goals as goal

pub returns : goal.returns
returns c = search remove-tells
