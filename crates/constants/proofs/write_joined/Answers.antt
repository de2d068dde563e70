use Rattle.constants.specs.Working.Writing.{write-over, write-past, write-half, write-short, write-in}
use Rattle.constants.proofs.write_joined.Goals as goal

pub returns-then-n-gt65535 : goal.returns-then-n-gt65535
returns-then-n-gt65535 c = search write-over

pub returns-then-dst-at : goal.returns-then-dst-at
returns-then-dst-at c = search write-past

pub returns-then-dst-at-lt2 : goal.returns-then-dst-at-lt2
returns-then-dst-at-lt2 c = search write-half

pub returns-then-dst-at-2 : goal.returns-then-dst-at-2
returns-then-dst-at-2 c = search write-short

pub returns : goal.returns
returns c = write-in _ _ _ _ c.joined_length-n.ensures c.if-n-gt65535.false c.if-dst-at.false c.if-dst-at-lt2.false c.if-dst-at-2.false _ _ c.put_pair.ensures _ _ c.join_at.ensures
