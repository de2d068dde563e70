use Rattle.compliance.specs.Working.Reach.{found-is, spare-on}
use Rattle.compliance.proofs.tables.System.find_reach.Goals as goal

pub returns : goal.returns
returns c = record { reach_after = search found-is; reach_unchanged = search spare-on }
