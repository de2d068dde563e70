use Rattle.expression.specs.Working.Searching.{behind-past, behind-short, behind-none}
use Rattle.expression.proofs.name.behind.Goals as goal

pub returns-then-s-p : goal.returns-then-s-p
returns-then-s-p c = search behind-past

pub returns-then-s-p-2 : goal.returns-then-s-p-2
returns-then-s-p-2 c = search behind-short

pub returns-then-s-p-lt2 : goal.returns-then-s-p-lt2
returns-then-s-p-lt2 c = search behind-none
