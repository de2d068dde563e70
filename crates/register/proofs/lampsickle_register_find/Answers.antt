use Rattle.register.specs.Working.Boundary.{checked-long, unread-find, found_at, found-not}
use Rattle.register.proofs.lampsickle_register_find.Goals as goal

pub read-requires : goal.read-requires
read-requires c = search checked-long

pub returns-in-Err : goal.returns-in-Err
returns-in-Err c = search unread-find

pub returns-in-At : goal.returns-in-At
returns-in-At c = search found_at

pub returns-in-Missing : goal.returns-in-Missing
returns-in-Missing c = search found-not
