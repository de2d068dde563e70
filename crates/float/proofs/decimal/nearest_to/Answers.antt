use Rattle.float.specs.Working.Converting.{ten-fits, ten-small, ten-some, found_number}
use Rattle.float.proofs.Working.Converting.{gives, gives-negative}
use borrow.Author.Rules.{rules}
use Rattle.float.proofs.decimal.nearest_to.Goals as goal

-- src/lib.rt:123:9
pub pattern-x-requires : goal.pattern-x-requires
pattern-x-requires c = (search rules, search ten-some, search ten-small)

-- src/lib.rt:124:13
pub float_from_bits-x : goal.float_from_bits-x
float_from_bits-x c = search found_number

-- src/lib.rt:126:9
pub returns-then-negative : goal.returns-then-negative
returns-then-negative c = search gives-negative

-- src/lib.rt:118:1
pub pow-c-requires : goal.pow-c-requires
pow-c-requires c = ten-fits _ c.requires.1

pub returns-else-negative : goal.returns-else-negative
returns-else-negative c = search gives
