use Rattle.printed.specs.Working.Adding.{reason-past}
use Rattle.printed.proofs.reason_at.Goals as goal

pub returns-then-page-i : goal.returns-then-page-i
returns-then-page-i c = search reason-past
