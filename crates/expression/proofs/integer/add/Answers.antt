use Rattle.expression.specs.Working.Arithmetic.{add-negatives, add_left, add_right, add-plain}
use Rattle.expression.proofs.integer.add.Goals as goal

pub returns-then-b : goal.returns-then-b
returns-then-b c = search add-negatives

pub returns-then-a : goal.returns-then-a
returns-then-a c = search add_left

pub returns-then-b-2 : goal.returns-then-b-2
returns-then-b-2 c = search add_right

pub returns : goal.returns
returns c = search add-plain
