use Rattle.naming.specs.Working.Identifying.{number-full, number-known}
use Rattle.naming.proofs.identifier.of_number.Goals as goal

pub returns-in-None : goal.returns-in-None
returns-in-None c = search number-full

pub returns-in-Some : goal.returns-in-Some
returns-in-Some c = search number-known
