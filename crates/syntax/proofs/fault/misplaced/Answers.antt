use Rattle.syntax.specs.Working.Faults.{misplaced-is}
use Rattle.syntax.proofs.fault.misplaced.Goals as goal

-- src/fault.rt:49:1
pub returns : goal.returns
returns c = search misplaced-is
