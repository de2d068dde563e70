use Rattle.printed.specs.Working.Adding.{head-added}
use Rattle.printed.proofs.add_head.Goals as goal

pub returns : goal.returns
returns c = search head-added
