use Rattle.float.specs.Working.Converting.{place-fits, under-step, under-made, level-start}
use borrow.Author.Rules.{rules}
use Rattle.float.proofs.decimal.under_doubled.Goals as goal

-- src/lib.rt:37:5
pub loop-b-init : goal.loop-b-init
loop-b-init c = (search rules, search rules, search rules, search level-start)

-- src/lib.rt:39:9
pub overflow_add-j : goal.overflow_add-j
overflow_add-j c = search place-fits

-- src/lib.rt:37:5
pub loop-b-preserved : goal.loop-b-preserved
loop-b-preserved c = (search rules, search rules, search rules, search under-step)

-- src/lib.rt:31:1
pub returns : goal.returns
returns c = search under-made
