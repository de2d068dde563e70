use Rattle.system.specs.Working.Asking.{begin-full, begin-at}
use Rattle.system.proofs.asked.begin.Goals as goal

pub returns-in-None : goal.returns-in-None
returns-in-None c = search begin-full

pub returns-in-Some : goal.returns-in-Some
returns-in-Some c = search begin-at
