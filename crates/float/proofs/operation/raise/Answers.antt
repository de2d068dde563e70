use Rattle.float.specs.Working.Computing.{raise-start, raise-next, raise-error, raise-done}
use Rattle.float.proofs.operation.raise.Goals as goal

pub loop-init : goal.loop-init
loop-init c = search raise-start

pub loop-preserved : goal.loop-preserved
loop-preserved c = search (raise-next, c.in_ok-v.was)

pub returns-in_err-v : goal.returns-in_err-v
returns-in_err-v c = rw c.from_residual.ensures (search (raise-error, c.in_err-v.was))

pub returns : goal.returns
returns c = search raise-done
