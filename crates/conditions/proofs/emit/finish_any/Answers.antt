use Rattle.conditions.proofs.EmitWays.{finish-made, finish-not}
use Rattle.conditions.proofs.emit.finish_any.Goals as goal

pub returns-then-is_fit : goal.returns-then-is_fit
returns-then-is_fit c = search finish-made

pub returns : goal.returns
returns c = search finish-not
