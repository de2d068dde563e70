use Rattle.machine.specs.Working.Running.{live-fault, live-top, numbers-within}
use Rattle.machine.proofs.run.Goals as goal

pub top-requires : goal.top-requires
top-requires c = search numbers-within

pub returns-in-None : goal.returns-in-None
returns-in-None c = search live-fault

pub returns-in-Some : goal.returns-in-Some
returns-in-Some c = search live-top
