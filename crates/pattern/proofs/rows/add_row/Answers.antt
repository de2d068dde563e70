use Rattle.pattern.specs.Working.Places.{way-add, way-add-out}
use Rattle.pattern.proofs.rows.add_row.Goals as goal

pub returns-then-q-lt256 : goal.returns-then-q-lt256
returns-then-q-lt256 c = search way-add

pub returns-else-q-lt256 : goal.returns-else-q-lt256
returns-else-q-lt256 c = search way-add-out
