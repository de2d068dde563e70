use Rattle.machine.specs.Working.Quick.{plain-quick}
use Rattle.machine.specs.Working.Running.{numbers-within, bytes-within, plain-stuck, plain-raised}
use Rattle.machine.proofs.plain_step.Goals as goal

pub returns-then-is_told : goal.returns-then-is_told
returns-then-is_told c = search plain-quick

pub raise_step-requires : goal.raise_step-requires
raise_step-requires c = let w = c.in_ok-top.was {u = tt} in (search (numbers-within, w), search (bytes-within, w))

pub returns-in_err-top : goal.returns-in_err-top
returns-in_err-top c = let w = c.in_err-top.was {u = tt} in rw c.from_residual.ensures (search (plain-stuck, w))

pub returns : goal.returns
returns c = let w = c.in_ok-top.was {u = tt} in search (plain-raised, w)
