use Rattle.machine.specs.Working.Stepping.{put_second}
use Rattle.machine.specs.Working.Quick.{land-in}
use Rattle.machine.proofs.land.Goals as goal

pub bounds-stack-n-2 : goal.bounds-stack-n-2
bounds-stack-n-2 c = search put_second

pub returns : goal.returns
returns c = search land-in
