use Rattle.assertion.specs.Working.ReadingWays.{read-unverified, read-on}
use Rattle.assertion.proofs.read.Goals as goal

pub returns-then-standing-eq0 : goal.returns-then-standing-eq0
returns-then-standing-eq0 c = search read-unverified

pub returns : goal.returns
returns c = search read-on
