use Rattle.expression.specs.Working.Arithmetic.{less-in, less-turned}
use Rattle.expression.proofs.integer.less.Goals as goal

pub returns-then-y-x : goal.returns-then-y-x
returns-then-y-x c = search less-in

pub returns : goal.returns
returns c = search less-turned
