use Rattle.keynote.specs.Working.Answering.{part_none, part-past, part-rest}
use Rattle.keynote.proofs.part.Goals as goal

pub returns-then-to-from : goal.returns-then-to-from
returns-then-to-from c = search part_none

pub returns-then-table-from : goal.returns-then-table-from
returns-then-table-from c = search part-past

pub returns-then-table-to : goal.returns-then-table-to
returns-then-table-to c = search part-rest
