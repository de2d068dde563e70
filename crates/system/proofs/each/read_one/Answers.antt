use Rattle.system.specs.Working.Each.{one-is}
use Rattle.system.proofs.each.read_one.Goals as goal

pub returns : goal.returns
returns c = search one-is
