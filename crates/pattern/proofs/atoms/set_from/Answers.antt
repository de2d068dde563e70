use Rattle.pattern.specs.Working.Scan.{way-set-closed, way-set-end, way-set-more, way-set-stuck, way-set-wrong}
use Rattle.pattern.proofs.atoms.set_from.Goals as goal

pub returns-in_err-item_at : goal.returns-in_err-item_at
returns-in_err-item_at c = rw c.from_residual.ensures (search (way-set-wrong, c.in_err-item_at.was))

pub returns-in-Closed : goal.returns-in-Closed
returns-in-Closed c = search (way-set-closed, c.in_ok-item_at.was)

pub returns-then-next-i : goal.returns-then-next-i
returns-then-next-i c = search (way-set-stuck, c.in_ok-item_at.was)

pub loop-i-preserved : goal.loop-i-preserved
loop-i-preserved c = search (way-set-more, c.in_ok-item_at.was)

pub returns : goal.returns
returns c = search way-set-end
