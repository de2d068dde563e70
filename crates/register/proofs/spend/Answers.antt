use Rattle.register.proofs.Working.Operations.{spend-tells}
use Rattle.register.proofs.spend.Goals as goal

pub returns : goal.returns
returns c = search spend-tells
