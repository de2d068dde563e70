use Rattle.conditions.proofs.ProgramWays.{last_found, last-not}
use Rattle.conditions.proofs.program.last.Goals as goal

pub returns-then-is_stop : goal.returns-then-is_stop
returns-then-is_stop c = search last_found

pub returns : goal.returns
returns c = search last-not
