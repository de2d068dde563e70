use Rattle.register.specs.Working.Boundary.{checked-long, unread, call-done}
use Rattle.register.proofs.lampsickle_register_spend.Goals as goal

pub read-requires : goal.read-requires
read-requires c = search checked-long

pub finish-requires : goal.finish-requires
finish-requires c = search checked-long

pub returns-in-Err : goal.returns-in-Err
returns-in-Err c = search unread

pub returns-in-Ok : goal.returns-in-Ok
returns-in-Ok c = search call-done
