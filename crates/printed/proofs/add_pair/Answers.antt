use Rattle.printed.specs.Working.Adding.{pair-added}
use Rattle.printed.proofs.add_pair.Goals as goal

pub returns : goal.returns
returns c = search pair-added
