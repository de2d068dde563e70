use Rattle.std.proofs.Common.{rules}
use Rattle.pattern.specs.Working.Skip.{note-start, note-more, note-all}
use Rattle.pattern.proofs.run.Pattern.note_idle.Goals as goal

pub loop-k-init : goal.loop-k-init
loop-k-init c = (search rules, search note-start)

pub loop-k-preserved : goal.loop-k-preserved
loop-k-preserved c = (search rules, search note-more)

pub returns : goal.returns
returns c = search note-all
