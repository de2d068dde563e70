use Rattle.assertion.specs.Working.FieldWays.{clear-past}
use Rattle.assertion.proofs.label.clear.Goals as goal

pub returns-then-free-k : goal.returns-then-free-k
returns-then-free-k c = search clear-past
