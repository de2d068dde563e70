use Rattle.system.specs.Working.NotingWays.{header-none, header-in}
use Rattle.system.proofs.note.put_header.Goals as goal

pub returns-then-page-lt3 : goal.returns-then-page-lt3
returns-then-page-lt3 c = search header-none

pub returns : goal.returns
returns c = search header-in
