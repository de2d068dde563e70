use Rattle.text.specs.Working.Backward.{same-apart}
use Rattle.text.proofs.same_bytes.Goals as goal

pub returns-then-a-b : goal.returns-then-a-b
returns-then-a-b c = search same-apart
