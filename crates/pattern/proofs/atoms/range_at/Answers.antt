use Rattle.std.proofs.Common.{rules}
use Rattle.text.specs.Choice.{tests}
use Rattle.pattern.specs.Working.Scan.{range_at, way-range, way-range-falls, way-range-unfit}
use Rattle.pattern.proofs.atoms.range_at.Goals.{then-p-i-via-then-p-i, then-p-i-via-else-p-i+then-p-i-le2, then-p-i-via-else-p-i+else-p-i-le2+then-not-ends_range}
use Rattle.pattern.proofs.atoms.range_at.Goals as goal

pub returns-then-p-i : goal.returns-then-p-i
unfolding range_at
returns-then-p-i c = elim c.then-p-i.branch [
  | then-p-i-via-then-p-i w ↦ search (rules, tests)
  | then-p-i-via-else-p-i+then-p-i-le2 w ↦ search (rules, tests)
  | then-p-i-via-else-p-i+else-p-i-le2+then-not-ends_range w ↦ search way-range-unfit
]

pub returns-then-p-i-2 : goal.returns-then-p-i-2
returns-then-p-i-2 c = search way-range-falls

pub returns : goal.returns
returns c = search way-range
