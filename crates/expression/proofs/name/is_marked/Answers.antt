use Rattle.expression.specs.Working.Searching.{marked-none}
use Rattle.expression.proofs.name.is_marked.Goals as goal

pub returns-then-name-le0 : goal.returns-then-name-le0
returns-then-name-le0 c = search marked-none
