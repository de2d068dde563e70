use Rattle.machine.specs.Working.Alike.{texts-short, texts-shorter, texts-in}
use Rattle.machine.proofs.texts_step.Goals as goal

pub returns-then-t-wy : goal.returns-then-t-wy
returns-then-t-wy c = search texts-short

pub returns-then-mid-wx : goal.returns-then-mid-wx
returns-then-mid-wx c = search texts-shorter

pub returns : goal.returns
returns c = search texts-in
