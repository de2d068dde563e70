use Rattle.system.specs.Working.Asking.{ask-full, ask-at}
use Rattle.system.proofs.asked.ask.Goals as goal

pub returns-in-None : goal.returns-in-None
returns-in-None c = search ask-full

pub returns-in-Some : goal.returns-in-Some
returns-in-Some c = search ask-at
