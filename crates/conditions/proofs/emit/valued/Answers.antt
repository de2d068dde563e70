use Rattle.conditions.proofs.EmitWays.{valued-made, valued_not}
use Rattle.conditions.proofs.emit.valued.Goals as goal

pub returns-then-is_fit : goal.returns-then-is_fit
returns-then-is_fit c = search valued-made

pub returns : goal.returns
returns c = search valued_not
