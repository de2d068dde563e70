use Rattle.printed.specs.Working.Adding.{place-past}
use Rattle.printed.proofs.place_at.Goals as goal

pub returns-then-page-i : goal.returns-then-page-i
returns-then-page-i c = search place-past
