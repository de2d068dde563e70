use Rattle.register.proofs.Working.Operations.{issue-tells}
use Rattle.register.proofs.issue.Goals as goal

pub returns : goal.returns
returns c = search issue-tells
