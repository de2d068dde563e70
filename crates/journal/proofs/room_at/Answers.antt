use Rattle.journal.specs.Working.Ways.{at-tiny, at-over, at-enough, at-unclean}
use Rattle.journal.proofs.room_at.Goals as goal

pub returns-then-not-is_clear : goal.returns-then-not-is_clear
returns-then-not-is_clear c = search at-unclean

pub returns-then-left-lt3 : goal.returns-then-left-lt3
returns-then-left-lt3 c = search at-tiny

pub returns-then-left-n : goal.returns-then-left-n
returns-then-left-n c = search at-over

pub returns : goal.returns
returns c = search at-enough
