use Rattle.std.proofs.Common.{rules}
use Rattle.text.specs.Choice.{tests}
use Rattle.pattern.specs.Working.Scan.{ranges, way-ranges}
use Rattle.pattern.proofs.atoms.ranges.Goals.{then-p-i-via-then-p-i, then-p-i-via-else-p-i+then-p-i-2, then-p-i-via-else-p-i+else-p-i-2+then-p-i-ne45}
use Rattle.pattern.proofs.atoms.ranges.Goals as goal

pub returns-then-p-i : goal.returns-then-p-i
unfolding ranges
returns-then-p-i c = elim c.then-p-i.branch [
  | then-p-i-via-then-p-i w ↦ search (rules, tests)
  | then-p-i-via-else-p-i+then-p-i-2 w ↦ search (rules, tests)
  | then-p-i-via-else-p-i+else-p-i-2+then-p-i-ne45 w ↦ search (rules, tests)
]

pub returns : goal.returns
returns c = search way-ranges
