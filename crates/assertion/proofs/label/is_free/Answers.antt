use Rattle.assertion.specs.Working.FieldWays.{free-past}
use Rattle.assertion.proofs.label.is_free.Goals as goal

pub returns-then-free-k : goal.returns-then-free-k
returns-then-free-k c = search free-past
