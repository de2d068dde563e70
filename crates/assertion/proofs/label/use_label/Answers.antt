use Rattle.assertion.specs.Working.FieldWays.{used}
use Rattle.assertion.proofs.label.use_label.Goals as goal

pub returns : goal.returns
returns c = search used
