use Rattle.machine.specs.Working.Stepping.{put_full, put_in, put_second}
use Rattle.machine.proofs.put.Goals as goal

pub returns-then-stack-n : goal.returns-then-stack-n
returns-then-stack-n c = search put_full

pub bounds-stack-n-2 : goal.bounds-stack-n-2
bounds-stack-n-2 c = search put_second

pub returns : goal.returns
returns c = search put_in
