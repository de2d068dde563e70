use Rattle.conditions.proofs.TableWays.{right-made}
use Rattle.conditions.proofs.table.right_level.Goals as goal

pub returns : goal.returns
returns c = search right-made
