use Rattle.float.specs.Working.Converting.{place-some, over-again, over-made}
use borrow.Author.Rules.{rules}
use Rattle.float.proofs.decimal.over_doubled.Goals as goal

-- src/lib.rt:57:9
pub overflow_sub-j : goal.overflow_sub-j
overflow_sub-j c = search place-some

-- src/lib.rt:55:5
pub loop-a-preserved : goal.loop-a-preserved
loop-a-preserved c = (search rules, search rules, search rules, search over-again)

-- src/lib.rt:49:1
pub returns : goal.returns
returns c = search over-made
