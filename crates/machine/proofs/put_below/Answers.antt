use Rattle.machine.specs.Working.Stepping.{put-below-past, put-below-short, put-below-in}
use Rattle.machine.proofs.put_below.Goals as goal

pub returns-then-t-base : goal.returns-then-t-base
returns-then-t-base c = search put-below-past

pub returns-then-t-base-2 : goal.returns-then-t-base-2
returns-then-t-base-2 c = search put-below-short

pub returns : goal.returns
returns c = search put-below-in
