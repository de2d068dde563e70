use Rattle.expression.specs.Working.Searching.{first-start, first-end, first-here, first_more}
use Rattle.expression.proofs.name.find.Goals as goal

pub loop-i-init : goal.loop-i-init
loop-i-init c = search first-start

pub loop-i-preserved : goal.loop-i-preserved
loop-i-preserved c = search first_more

pub returns-then-places-i : goal.returns-then-places-i
returns-then-places-i c = search first-end

pub returns-then-is_name : goal.returns-then-is_name
returns-then-is_name c = search first-here
