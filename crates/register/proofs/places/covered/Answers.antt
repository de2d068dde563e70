use Rattle.std.proofs.lemmas.Bool.{not-true, not-false}
use borrow.Author.Rules.{rules}
use Rattle.register.specs.Working.Ways.{sum-start, sum_over, sum_more, sum-free, sum-end}
use Rattle.register.proofs.places.covered.Goals as goal

pub loop-p-init : goal.loop-p-init
loop-p-init c = (search rules, search sum-start)

pub loop-p-preserved-then-not-p : goal.loop-p-preserved-then-not-p
loop-p-preserved-then-not-p c = (search rules, search (sum-free, not-true))

pub returns-then-r-total : goal.returns-then-r-total
returns-then-r-total c = search (sum_over, not-false)

pub loop-p-preserved : goal.loop-p-preserved
loop-p-preserved c = (search rules, search (sum_more, not-false))

pub returns : goal.returns
returns c = search sum-end
