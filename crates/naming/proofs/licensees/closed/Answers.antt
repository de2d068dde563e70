use Rattle.naming.specs.Working.ChainWays.{closed-not, closed_on}
use Rattle.naming.proofs.licensees.closed.Goals as goal

pub returns-then-t-ne-CLOSE : goal.returns-then-t-ne-CLOSE
returns-then-t-ne-CLOSE c = search (closed-not, closed_on)

pub returns : goal.returns
returns c = search (closed-not, closed_on)
