use Rattle.expression.specs.Working.Arithmetic.{sum_left, sum-right}
use Rattle.expression.proofs.integer.together.Goals as goal

pub returns-then-x-gt-LEAST : goal.returns-then-x-gt-LEAST
returns-then-x-gt-LEAST c = search sum_left

pub returns-then-y-gt-LEAST : goal.returns-then-y-gt-LEAST
returns-then-y-gt-LEAST c = search sum-right
