use Rattle.compliance.specs.Working.Machine.{combine-is}
use Rattle.compliance.proofs.machine.combine.Goals as goal

pub returns : goal.returns
returns c = search combine-is
