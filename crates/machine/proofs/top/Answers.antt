use Rattle.machine.specs.Working.Stepping.{top-none, top-some}
use Rattle.machine.proofs.top.Goals as goal

pub returns-then-n-lt2 : goal.returns-then-n-lt2
returns-then-n-lt2 c = search top-none

pub returns : goal.returns
returns c = search top-some
