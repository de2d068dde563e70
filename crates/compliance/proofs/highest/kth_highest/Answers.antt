use Rattle.compliance.specs.Working.Highest.{best_none, best-begin, best-rises, best-stays, best-few, best-end}
use Rattle.compliance.proofs.highest.kth_highest.Goals.{then-best-x+then-k-at_least, else-best-x, else-best-x-via-then-best-x+else-k-at_least, else-best-x-via-else-best-x}
use Rattle.compliance.proofs.highest.kth_highest.Goals as goal

pub returns-then-k-eq0 : goal.returns-then-k-eq0
returns-then-k-eq0 c = search best_none

pub loop-x-init : goal.loop-x-init
loop-x-init c = search best-begin

pub loop-x-preserved : goal.loop-x-preserved
loop-x-preserved c = elim c.if-best-x.branch [
  | then-best-x+then-k-at_least w ↦ rw w.best-is (search best-rises)
  | else-best-x w ↦ rw w.best-is (elim w.else-best-x.branch [
    | else-best-x-via-then-best-x+else-k-at_least w' ↦ search best-few
    | else-best-x-via-else-best-x w' ↦ search best-stays
  ])
]

pub returns : goal.returns
returns c = search best-end
