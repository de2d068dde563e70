use Rattle.machine.specs.Theorems.Wider.{rank-narrow, rank-middle, rank-wide}
use Rattle.machine.proofs.+run_on.Goals as goal

pub returns-then-tier-eq0 : goal.returns-then-tier-eq0
returns-then-tier-eq0 t c = search rank-narrow

pub returns-then-tier-eq1 : goal.returns-then-tier-eq1
returns-then-tier-eq1 t c = search rank-middle

pub returns : goal.returns
returns t c = search rank-wide
