use Rattle.compliance.specs.Working.Reach.{mark-in, mark-spare, mark-far, mark-none}
use Rattle.compliance.proofs.reach.mark.Goals.{else-op-lt-TOP-via-then-op-lt-TOP+else-i-n, else-op-lt-TOP-via-else-op-lt-TOP}
use Rattle.compliance.proofs.reach.mark.Goals as goal

pub returns-then-i-n-clause-reach_after : goal.returns-then-i-n-clause-reach_after
returns-then-i-n-clause-reach_after c = search mark-in

pub returns-then-i-n-clause-reach_unchanged : goal.returns-then-i-n-clause-reach_unchanged
returns-then-i-n-clause-reach_unchanged c = search mark-spare

pub returns-else-op-lt-TOP-clause-reach_after : goal.returns-else-op-lt-TOP-clause-reach_after
returns-else-op-lt-TOP-clause-reach_after c = elim c.else-op-lt-TOP.branch [
  | else-op-lt-TOP-via-then-op-lt-TOP+else-i-n w ↦ search mark-far
  | else-op-lt-TOP-via-else-op-lt-TOP w ↦ search mark-none
]
