use Rattle.machine.specs.Working.Ending.{concluded-low, concluded-high}
use Rattle.machine.proofs.concluded.Goals as goal

pub returns-then-rank-highest : goal.returns-then-rank-highest
returns-then-rank-highest c = search concluded-low

pub returns : goal.returns
returns c = search concluded-high
