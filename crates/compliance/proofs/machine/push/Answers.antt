use Rattle.compliance.specs.Working.Machine.{push-in, push-full}
use Rattle.compliance.proofs.machine.push.Goals as goal

pub returns-then-sp-stack : goal.returns-then-sp-stack
returns-then-sp-stack c = search push-in

pub returns : goal.returns
returns c = search push-full
