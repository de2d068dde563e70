use Rattle.system.specs.Working.Each.{standing-low}
use Rattle.system.proofs.each.standing_at.Goals as goal

pub returns-then-at-lt3 : goal.returns-then-at-lt3
returns-then-at-lt3 c = search standing-low
