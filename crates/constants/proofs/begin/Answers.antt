use Rattle.constants.specs.Working.Writing.{begin-none, begin-more}
use Rattle.constants.proofs.begin.Goals as goal

pub returns-then-at-eq0 : goal.returns-then-at-eq0
returns-then-at-eq0 c = search begin-none

pub returns : goal.returns
returns c = search begin-more
