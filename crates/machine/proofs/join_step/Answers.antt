use Rattle.machine.specs.Working.Joining.{join-short, join-shorter, join-long, join-held}
use Rattle.machine.proofs.join_step.Goals as goal

pub returns-then-t-wy : goal.returns-then-t-wy
returns-then-t-wy c = search join-short

pub returns-then-mid-wx : goal.returns-then-mid-wx
returns-then-mid-wx c = search join-shorter

pub returns-then-wx-wy-gt-MOST_STRING : goal.returns-then-wx-wy-gt-MOST_STRING
returns-then-wx-wy-gt-MOST_STRING c = search join-long

pub returns : goal.returns
returns c = search join-held
