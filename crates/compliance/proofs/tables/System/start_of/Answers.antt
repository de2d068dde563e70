use Rattle.compliance.specs.Working.Tables.{start_first, start-next}
use Rattle.compliance.proofs.tables.System.start_of.Goals as goal

pub returns-then-j-eq0 : goal.returns-then-j-eq0
returns-then-j-eq0 c = search start_first

pub returns : goal.returns
returns c = search start-next
