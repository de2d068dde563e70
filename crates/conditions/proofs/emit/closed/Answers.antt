use Rattle.conditions.proofs.EmitWays.{closed-not, closed-made}
use Rattle.conditions.proofs.emit.closed.Goals as goal

pub returns-then-t-ne-CLOSE : goal.returns-then-t-ne-CLOSE
returns-then-t-ne-CLOSE c = search closed-not

pub returns : goal.returns
returns c = search closed-made
