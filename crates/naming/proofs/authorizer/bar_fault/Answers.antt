use Rattle.naming.specs.Working.Authorizing.{fault-barred, fault-none}
use Rattle.naming.proofs.authorizer.bar_fault.Goals as goal

pub returns-then-is_barred : goal.returns-then-is_barred
returns-then-is_barred c = search fault-barred

pub returns : goal.returns
returns c = search fault-none
