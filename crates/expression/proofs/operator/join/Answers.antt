use Rattle.expression.specs.Working.Operating.{join-left, join-right, join-over, join-in}
use Rattle.expression.proofs.operator.join.Goals as goal

pub returns-then-a-gt-MOST_STRING : goal.returns-then-a-gt-MOST_STRING
returns-then-a-gt-MOST_STRING c = search join-left

pub returns-then-b-gt-MOST_STRING : goal.returns-then-b-gt-MOST_STRING
returns-then-b-gt-MOST_STRING c = search join-right

pub returns-then-n-gt-MOST_STRING : goal.returns-then-n-gt-MOST_STRING
returns-then-n-gt-MOST_STRING c = search join-over

pub returns : goal.returns
returns c = search join-in
