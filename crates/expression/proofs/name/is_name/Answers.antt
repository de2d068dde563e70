use Rattle.text.specs.Working.Backward.{same-apart, both-none, last-unlike}
use Rattle.expression.proofs.name.is_name.Goals as goal

pub returns-then-a-name : goal.returns-then-a-name
returns-then-a-name c = search same-apart

pub returns-then-a-eq0 : goal.returns-then-a-eq0
returns-then-a-eq0 c = search both-none

pub returns-then-a-name-2 : goal.returns-then-a-name-2
returns-then-a-name-2 c = search last-unlike
