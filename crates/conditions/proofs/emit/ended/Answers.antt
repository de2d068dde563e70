use Rattle.conditions.proofs.EmitWays.{ended-not, ended-made}
use Rattle.conditions.proofs.emit.ended.Goals as goal

pub returns-then-t-ne-SEMICOLON : goal.returns-then-t-ne-SEMICOLON
returns-then-t-ne-SEMICOLON c = search ended-not

pub returns : goal.returns
returns c = search ended-made
