use Rattle.text.specs.Working.Parts.{pair-none, pair-half, pair-whole}
use Rattle.text.proofs.pair_at.Goals as goal

pub returns-then-s-at : goal.returns-then-s-at
returns-then-s-at c = search pair-none

pub returns-then-s-at-le1 : goal.returns-then-s-at-le1
returns-then-s-at-le1 c = search pair-half

pub returns : goal.returns
returns c = search pair-whole
