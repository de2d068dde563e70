use Rattle.std.proofs.Common.{rules}
use Rattle.text.specs.Choice.{tests}
use Rattle.pattern.specs.Working.Scan.{set_at, way-not, way-not-unfit, way-set-plain}
use Rattle.pattern.proofs.atoms.set_at.Goals.{then-p-q-via-then-p-q, then-p-q-via-else-p-q+then-p-q-2}
use Rattle.pattern.proofs.atoms.set_at.Goals as goal

pub returns-then-p-q : goal.returns-then-p-q
unfolding set_at
returns-then-p-q c = elim c.then-p-q.branch [
  | then-p-q-via-then-p-q w ↦ search (rules, tests)
  | then-p-q-via-else-p-q+then-p-q-2 w ↦ search (rules, tests)
]

pub returns-in_err-at : goal.returns-in_err-at
returns-in_err-at c = rw c.from_residual.ensures (search (way-not-unfit, c.in_err-at.was))

pub returns-then-p-q-eq94 : goal.returns-then-p-q-eq94
returns-then-p-q-eq94 c = search (way-not, c.in_ok-at.was)

pub returns : goal.returns
returns c = search way-set-plain
