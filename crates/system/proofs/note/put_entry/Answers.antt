use Rattle.system.specs.Working.NotingWays.{entry-none, entry-far, entry_in}
use Rattle.system.proofs.note.put_entry.Goals as goal

pub returns-then-page-lt6 : goal.returns-then-page-lt6
returns-then-page-lt6 c = search entry-none

pub returns-then-page-i : goal.returns-then-page-i
returns-then-page-i c = search entry-far

pub returns : goal.returns
returns c = search entry_in
