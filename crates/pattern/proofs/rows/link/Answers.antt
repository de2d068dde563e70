use Rattle.pattern.specs.Working.Places.{way-link}
use Rattle.pattern.proofs.rows.link.Goals as goal

pub returns : goal.returns
returns c = search way-link
