use Rattle.naming.specs.Working.ChainWays.{end_on, end-not}
use Rattle.naming.proofs.licensees.finished.Goals as goal

pub returns-then-is_ending : goal.returns-then-is_ending
returns-then-is_ending c = search (end_on, end-not)

pub returns : goal.returns
returns c = search (end_on, end-not)
