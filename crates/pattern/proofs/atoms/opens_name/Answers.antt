use Rattle.std.proofs.Common.{rules}
use Rattle.text.specs.Choice.{tests}
use Rattle.pattern.specs.Bytes.{opens_name}
use Rattle.pattern.specs.Working.Scan.{way-opens-1, way-opens-2, way-opens-3}
use Rattle.pattern.proofs.atoms.opens_name.Goals.{then-p-i-via-then-p-i, then-p-i-via-else-p-i+then-p-i-ne91, then-stands-via-then-stands, then-stands-via-else-stands+then-stands-2}
use Rattle.pattern.proofs.atoms.opens_name.Goals as goal

pub returns-then-p-i : goal.returns-then-p-i
unfolding opens_name
returns-then-p-i c = elim c.then-p-i.branch [
  | then-p-i-via-then-p-i w ↦ search (rules, tests)
  | then-p-i-via-else-p-i+then-p-i-ne91 w ↦ search (rules, tests)
]

pub returns-then-stands : goal.returns-then-stands
returns-then-stands c = elim c.then-stands.branch [
  | then-stands-via-then-stands w ↦ search way-opens-1
  | then-stands-via-else-stands+then-stands-2 w ↦ search way-opens-2
]

pub returns : goal.returns
returns c = search way-opens-3
