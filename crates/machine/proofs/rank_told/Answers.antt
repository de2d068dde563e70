use Rattle.machine.specs.Working.Quick.{rank-held, rank-unheld}
use Rattle.machine.proofs.rank_told.Goals as goal

pub returns-then-kind-eq4 : goal.returns-then-kind-eq4
returns-then-kind-eq4 c = search rank-held

pub returns : goal.returns
returns c = search rank-unheld
