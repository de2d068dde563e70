use Rattle.float.specs.Working.Converting.{few-of}
use Rattle.float.proofs.Working.Converting.{found-zero, pattern-fits, pattern-narrow, found}
use borrow.Author.Rules.{rules}
use Rattle.float.proofs.decimal.pattern.Goals as goal

-- src/lib.rt:108:9
pub returns-then-a-eq0 : goal.returns-then-a-eq0
returns-then-a-eq0 c = search found-zero

-- src/lib.rt:113:9
pub rounded-m-requires : goal.rounded-m-requires
rounded-m-requires c = (search few-of, search rules, search rules)

-- src/lib.rt:114:6
pub overflow_add-result : goal.overflow_add-result
overflow_add-result c = search pattern-fits

-- src/lib.rt:114:5
pub overflow_cast-result : goal.overflow_cast-result
overflow_cast-result c = search pattern-narrow

-- src/lib.rt:103:1
pub returns : goal.returns
returns c = search found
