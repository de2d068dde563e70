use Rattle.index.specs.Working.Entering.{new-many, new-full, new-now}
use Rattle.index.proofs.enter_new.Goals as goal

pub returns-then-index-ge-MOST_NUMBERED : goal.returns-then-index-ge-MOST_NUMBERED
returns-then-index-ge-MOST_NUMBERED c = search new-many

pub returns-in_err-next : goal.returns-in_err-next
returns-in_err-next c = let w = c.in_err-next.was {u = tt} in rw c.from_residual.ensures (search (new-full, w))

pub returns : goal.returns
returns c = let w = c.in_ok-next.was {u = tt} in search (new-now, w)
