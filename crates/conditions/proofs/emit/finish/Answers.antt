use Rattle.conditions.proofs.EmitWays.{finish-wrong, finish-quick}
use Rattle.conditions.proofs.emit.finish.Goals as goal

pub returns-then-sort-operand_of : goal.returns-then-sort-operand_of
returns-then-sort-operand_of c = search finish-wrong

pub returns : goal.returns
returns c = search finish-quick
