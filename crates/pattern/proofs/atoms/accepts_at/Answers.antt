use Rattle.std.proofs.Common.{rules}
use Rattle.text.specs.Choice.{tests}
use Rattle.pattern.specs.Working.Scan.{accepts_at, way-accepts-any, way-accepts-escape, way-accepts-none, way-accepts-set}
use Rattle.pattern.proofs.atoms.accepts_at.Goals as goal

pub returns-then-p-q : goal.returns-then-p-q
unfolding accepts_at
returns-then-p-q c = search (rules, tests)

pub returns-in-46 : goal.returns-in-46
returns-in-46 c = search way-accepts-any

pub returns-in-92 : goal.returns-in-92
returns-in-92 c = search way-accepts-escape

pub returns-in-Some : goal.returns-in-Some
returns-in-Some c = search way-accepts-set

pub returns-in-None : goal.returns-in-None
returns-in-None c = search way-accepts-none

pub returns-in_default : goal.returns-in_default
unfolding accepts_at
returns-in_default c = search (rules, tests)
