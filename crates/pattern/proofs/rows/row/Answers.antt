use Rattle.pattern.specs.Working.Places.{way-row, way-row-out}
use Rattle.pattern.proofs.rows.row.Goals as goal

pub returns-then-q-lt256 : goal.returns-then-q-lt256
returns-then-q-lt256 c = search way-row

pub returns : goal.returns
returns c = search way-row-out
