use Rattle.compliance.specs.Working.Reach.{open-flag, open_done}
use Rattle.compliance.proofs.tables.System.is_open.Goals as goal

pub returns-then-not-item_or : goal.returns-then-not-item_or
returns-then-not-item_or c = search open-flag

pub returns-else-not-item_or : goal.returns-else-not-item_or
returns-else-not-item_or c = search open_done
