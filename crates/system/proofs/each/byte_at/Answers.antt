use Rattle.system.specs.Working.Each.{byte_past}
use Rattle.system.proofs.each.byte_at.Goals as goal

pub returns-then-s-at : goal.returns-then-s-at
returns-then-s-at c = search byte_past
