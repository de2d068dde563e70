use Rattle.index.specs.Working.Adding.{principal-far, principal-full, principal-now}
use Rattle.index.proofs.add_principal.Goals as goal

pub returns-then-index-ge1048574 : goal.returns-then-index-ge1048574
returns-then-index-ge1048574 c = search principal-far

pub returns-in_err-next : goal.returns-in_err-next
returns-in_err-next c = let w = c.in_err-next.was {u = tt} in rw c.from_residual.ensures (search (principal-full, w))

pub returns : goal.returns
returns c = let w = c.in_ok-next.was {u = tt} in search (principal-now, w)
