use Rattle.expression.specs.Working.Searching.{last_none}
use Rattle.expression.proofs.name.last.Goals as goal

pub returns-then-values-eq0 : goal.returns-then-values-eq0
returns-then-values-eq0 c = search last_none
