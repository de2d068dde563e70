use Rattle.keynote.specs.Working.Answering.{page-low, page-short, page-written}
use Rattle.keynote.proofs.answered.Goals as goal

pub returns-then-page-lt3 : goal.returns-then-page-lt3
returns-then-page-lt3 c = search page-low

pub returns-then-page-texts : goal.returns-then-page-texts
returns-then-page-texts c = search page-short

pub returns : goal.returns
returns c = search page-written
