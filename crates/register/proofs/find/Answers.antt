use Rattle.register.specs.Working.Operations.{find-tells}
use Rattle.register.proofs.find.Goals as goal

pub returns : goal.returns
returns c = search find-tells
