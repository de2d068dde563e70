use Rattle.compliance.specs.Working.RoundWays.{adopt-start, still-start, adopt-more, still-more, adopt-end}
use Rattle.compliance.proofs.rounds.adopt.Goals as goal

pub loop-i-init : goal.loop-i-init
loop-i-init c = (search adopt-start, search still-start)

pub loop-i-preserved : goal.loop-i-preserved
loop-i-preserved c = (search adopt-more, search still-more)

pub returns : goal.returns
returns c = search adopt-end
