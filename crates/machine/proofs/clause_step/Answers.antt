use Rattle.machine.specs.Working.Running.{numbers-within, bytes-within, clause-begin, clause-plain, idle-two, clause-idle, clause-stuck, clause-raised}
use Rattle.machine.proofs.clause_step.Goals as goal

pub returns-then-op-eq-BEGIN : goal.returns-then-op-eq-BEGIN
returns-then-op-eq-BEGIN c = search clause-begin

pub returns-then-op-eq-PLAIN : goal.returns-then-op-eq-PLAIN
returns-then-op-eq-PLAIN c = search clause-plain

pub overflow_sub-result : goal.overflow_sub-result
overflow_sub-result c = search idle-two

pub returns-then-is_idle : goal.returns-then-is_idle
returns-then-is_idle c = search clause-idle

pub raise_step-requires : goal.raise_step-requires
raise_step-requires c = let w = c.in_ok-top.was {u = tt} in (search (numbers-within, w), search (bytes-within, w))

pub returns-in_err-top : goal.returns-in_err-top
returns-in_err-top c = let w = c.in_err-top.was {u = tt} in rw c.from_residual.ensures (search (clause-stuck, w))

pub returns : goal.returns
returns c = let w = c.in_ok-top.was {u = tt} in search (clause-raised, w)
