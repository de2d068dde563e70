use Rattle.conditions.proofs.EmitWays.{unexpected-made}
use Rattle.conditions.proofs.emit.unexpected.Goals as goal

pub returns : goal.returns
returns c = search unexpected-made
