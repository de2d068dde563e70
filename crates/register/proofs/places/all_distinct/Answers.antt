use Rattle.std.proofs.lemmas.Bool.{not-true, not-false}
use Rattle.register.specs.Working.Ways.{distinct-twice, distinct_more, distinct-free, distinct-end}
use Rattle.register.proofs.places.all_distinct.Goals as goal

pub loop-i-preserved-then-not-p : goal.loop-i-preserved-then-not-p
loop-i-preserved-then-not-p c = search (distinct-free, not-true)

pub returns-in-At : goal.returns-in-At
returns-in-At c = search (distinct-twice, not-false)

pub loop-i-preserved : goal.loop-i-preserved
loop-i-preserved c = search (distinct_more, not-false)

pub returns : goal.returns
returns c = search distinct-end
