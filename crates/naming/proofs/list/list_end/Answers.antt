use Rattle.naming.specs.Working.ListWays.{list-few, list-enough}
use Rattle.naming.proofs.list.list_end.Goals as goal

pub returns-then-n-k : goal.returns-then-n-k
returns-then-n-k c = search (list-few, list-enough)

pub returns : goal.returns
returns c = search (list-few, list-enough)
