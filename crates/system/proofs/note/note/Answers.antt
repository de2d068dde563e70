use Rattle.system.specs.Working.NotingWays.{note-dropped, note-kept}
use Rattle.system.proofs.note.note.Goals as goal

pub returns-in-Err : goal.returns-in-Err
returns-in-Err c = search note-dropped

pub returns-in-Ok : goal.returns-in-Ok
returns-in-Ok c = search note-kept
