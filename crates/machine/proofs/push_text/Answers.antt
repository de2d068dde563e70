use Rattle.machine.specs.Working.Stepping.{text-over, text-copied, text-none}
use Rattle.machine.proofs.push_text.Goals as goal

pub returns-then-k-gt-MOST_STRING : goal.returns-then-k-gt-MOST_STRING
returns-then-k-gt-MOST_STRING c = search text-over

pub returns-then-copy_at : goal.returns-then-copy_at
returns-then-copy_at c = search text-copied

pub returns : goal.returns
returns c = search text-none
