use Rattle.printed.specs.Working.Adding.{line-added}
use Rattle.printed.proofs.add_line.Goals as goal

pub returns : goal.returns
returns c = search line-added
