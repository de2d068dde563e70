use Rattle.register.specs.Working.Boundary.{finish-granted, finish-refused}
use Rattle.register.proofs.finish.Goals as goal

pub returns-in-Ok : goal.returns-in-Ok
returns-in-Ok c = search finish-granted

pub returns-in-Err : goal.returns-in-Err
returns-in-Err c = search finish-refused
