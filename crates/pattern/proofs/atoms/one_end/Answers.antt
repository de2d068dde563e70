use Rattle.std.proofs.Common.{rules}
use Rattle.text.specs.Choice.{tests}
use Rattle.pattern.specs.Working.Scan.{one_end, way-end-any, way-end-byte, way-end-escape, way-end-last, way-end-set, way-end-special, way-end-unfit}
use Rattle.pattern.proofs.atoms.one_end.Goals.{then-p-i-2-via-then-p-i-2, then-p-i-2-via-else-p-i-2+then-not-special}
use Rattle.pattern.proofs.atoms.one_end.Goals as goal

pub returns-then-p-i : goal.returns-then-p-i
unfolding one_end
returns-then-p-i c = search (rules, tests)

pub returns-in-46 : goal.returns-in-46
returns-in-46 c = search way-end-any

pub returns-then-p-i-2 : goal.returns-then-p-i-2
returns-then-p-i-2 c = elim c.then-p-i-2.branch [
  | then-p-i-2-via-then-p-i-2 w ↦ search way-end-last
  | then-p-i-2-via-else-p-i-2+then-not-special w ↦ search way-end-unfit
]

pub returns-else-not-special : goal.returns-else-not-special
returns-else-not-special c = search (way-end-escape c.args.p.now c.args.i)

pub returns-in-91 : goal.returns-in-91
returns-in-91 c = search way-end-set

pub returns-then-special : goal.returns-then-special
returns-then-special c = search way-end-special

pub returns-else-special : goal.returns-else-special
returns-else-special c = search (way-end-byte c.args.p.now c.args.i)
