use Rattle.printed.specs.Working.Adding.{assertion-added}
use Rattle.printed.proofs.add_assertion.Goals as goal

pub returns : goal.returns
returns c = search assertion-added
