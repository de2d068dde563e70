use Rattle.std.proofs.Common.{rules}
use Rattle.text.specs.Choice.{tests}
use Rattle.pattern.specs.Working.Scan.{ends_range, way-ends}
use Rattle.pattern.proofs.atoms.ends_range.Goals.{then-p-i-via-then-p-i, then-p-i-via-else-p-i+then-p-i-eq45, then-p-i-via-else-p-i+else-p-i-eq45+then-p-i-eq93}
use Rattle.pattern.proofs.atoms.ends_range.Goals as goal

pub returns-then-p-i : goal.returns-then-p-i
unfolding ends_range
returns-then-p-i c = elim c.then-p-i.branch [
  | then-p-i-via-then-p-i w ↦ search (rules, tests)
  | then-p-i-via-else-p-i+then-p-i-eq45 w ↦ search (rules, tests)
  | then-p-i-via-else-p-i+else-p-i-eq45+then-p-i-eq93 w ↦ search (rules, tests)
]

pub returns : goal.returns
returns c = search way-ends
