use Rattle.std.proofs.Common.{rules}
use Rattle.text.specs.Choice.{tests}
use Rattle.pattern.specs.Working.Scan.{dash_at, way-dash-first, way-dash-last, way-dash-wrong}
use Rattle.pattern.proofs.atoms.dash_at.Goals.{then-first-via-then-first, then-first-via-else-first+then-stands}
use Rattle.pattern.proofs.atoms.dash_at.Goals as goal

pub returns-then-p-i : goal.returns-then-p-i
unfolding dash_at
returns-then-p-i c = search (rules, tests)

pub returns-then-first : goal.returns-then-first
returns-then-first c = elim c.then-first.branch [
  | then-first-via-then-first w ↦ search way-dash-first
  | then-first-via-else-first+then-stands w ↦ search way-dash-last
]

pub returns : goal.returns
returns c = search way-dash-wrong
