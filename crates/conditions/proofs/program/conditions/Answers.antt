use Rattle.conditions.proofs.ProgramWays.{conditions-none, conditions-short, conditions-read}
use Rattle.conditions.proofs.program.conditions.Goals as goal

pub returns-then-code-top : goal.returns-then-code-top
returns-then-code-top c = search conditions-none

pub returns-then-code-top-2 : goal.returns-then-code-top-2
returns-then-code-top-2 c = search conditions-short

pub returns : goal.returns
returns c = search conditions-read
