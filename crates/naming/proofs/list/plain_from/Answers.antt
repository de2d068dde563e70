use Rattle.naming.specs.Working.ListWays.{plain_end, plain-stop, plain-again}
use Rattle.naming.proofs.list.plain_from.Goals as goal

pub returns-then-t-ne-OPEN : goal.returns-then-t-ne-OPEN
returns-then-t-ne-OPEN c = search plain-stop

pub loop-left-preserved : goal.loop-left-preserved
loop-left-preserved c = search plain-again

pub returns : goal.returns
returns c = search plain_end
