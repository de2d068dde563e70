use Rattle.index.specs.Working.Walking.{entry_other, entry-held}
use Rattle.index.proofs.is_entry.Goals as goal

pub returns-then-e-t : goal.returns-then-e-t
returns-then-e-t c = search entry-held

pub returns-else-e-t : goal.returns-else-e-t
returns-else-e-t c = search entry_other
