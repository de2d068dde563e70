use Rattle.printed.specs.Working.Filling.{fill_none, add-cut}
use Rattle.printed.proofs.add.Goals as goal

pub returns-then-out-at : goal.returns-then-out-at
returns-then-out-at c = search fill_none

pub returns : goal.returns
returns c = search add-cut
