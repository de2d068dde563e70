use Rattle.machine.specs.Working.Stepping.{unary-none, unary-short, unary-in}
use Rattle.machine.proofs.unary_step.Goals as goal

pub returns-then-n-lt2 : goal.returns-then-n-lt2
returns-then-n-lt2 c = search unary-none

pub returns-then-t-w : goal.returns-then-t-w
returns-then-t-w c = search unary-short

pub returns : goal.returns
returns c = search unary-in
