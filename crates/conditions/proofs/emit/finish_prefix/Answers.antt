use Rattle.conditions.proofs.EmitWays.{prefix-finished}
use Rattle.conditions.proofs.emit.finish_prefix.Goals as goal

pub returns : goal.returns
returns c = search prefix-finished
