use Rattle.machine.specs.Working.Stepping.{binary-short, binary-shorter, binary-in}
use Rattle.machine.proofs.binary_on.Goals as goal

pub returns-then-t-wy : goal.returns-then-t-wy
returns-then-t-wy c = search binary-short

pub returns-then-mid-wx : goal.returns-then-mid-wx
returns-then-mid-wx c = search binary-shorter

pub returns : goal.returns
returns c = search binary-in
