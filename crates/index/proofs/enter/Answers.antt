use Rattle.index.specs.Working.Entering.{enter-found, enter-missing}
use Rattle.index.proofs.enter.Goals as goal

pub returns-in-Ok : goal.returns-in-Ok
returns-in-Ok c = search enter-found

pub returns-in-Err : goal.returns-in-Err
returns-in-Err c = search enter-missing
