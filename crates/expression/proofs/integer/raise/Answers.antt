use Rattle.expression.specs.Working.Arithmetic.{raise-none, raise-small, raise-large, raise-over, raise-more, raise-end, product-fits}
use borrow.Author.Rules.{rules}
use Rattle.expression.proofs.integer.raise.Goals as goal

pub returns-then-n-eq0 : goal.returns-then-n-eq0
returns-then-n-eq0 c = search raise-none

pub returns-then-x-le1 : goal.returns-then-x-le1
returns-then-x-le1 c = search raise-small

pub returns-then-x-gt-LEAST : goal.returns-then-x-gt-LEAST
returns-then-x-gt-LEAST c = search raise-large

pub overflow_mul-v : goal.overflow_mul-v
overflow_mul-v c = search product-fits

pub returns-then-v-gt-LEAST : goal.returns-then-v-gt-LEAST
returns-then-v-gt-LEAST c = search raise-over

pub loop-left-preserved : goal.loop-left-preserved
loop-left-preserved c = (search rules, search raise-more)

pub returns : goal.returns
returns c = search raise-end
