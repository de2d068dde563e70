use Rattle.compliance.specs.Working.RoundWays.{granted-is}
use Rattle.compliance.proofs.tables.System.granted.Goals as goal

pub returns : goal.returns
returns c = search granted-is
