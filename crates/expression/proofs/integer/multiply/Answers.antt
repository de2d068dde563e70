use Rattle.expression.specs.Working.Arithmetic.{times_none, times-nothing, times-left, times-right, times-in, product-fits}
use Rattle.expression.proofs.integer.multiply.Goals as goal

pub returns-then-a-eq0 : goal.returns-then-a-eq0
returns-then-a-eq0 c = search times_none

pub returns-then-b-eq0 : goal.returns-then-b-eq0
returns-then-b-eq0 c = search times-nothing

pub returns-then-a-gt-LEAST : goal.returns-then-a-gt-LEAST
returns-then-a-gt-LEAST c = search times-left

pub returns-then-b-gt-LEAST : goal.returns-then-b-gt-LEAST
returns-then-b-gt-LEAST c = search times-right

pub overflow_mul-a : goal.overflow_mul-a
overflow_mul-a c = search product-fits

pub returns : goal.returns
returns c = search times-in
