use Rattle.journal.specs.Working.Ways.{zeros-more, zeros-end}
use Rattle.journal.proofs.is_clear.Goals as goal

pub loop-b-preserved : goal.loop-b-preserved
loop-b-preserved c = search zeros-more

pub returns : goal.returns
returns c = search zeros-end
