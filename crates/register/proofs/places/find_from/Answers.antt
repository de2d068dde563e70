use Rattle.std.proofs.lemmas.Bool.{not-true, not-false}
use borrow.Author.Rules.{rules}
use Rattle.register.specs.Working.Ways.{find-here, find-other, find-free, find-end}
use Rattle.register.proofs.places.find_from.Goals as goal

pub loop-i-preserved-then-not-p : goal.loop-i-preserved-then-not-p
loop-i-preserved-then-not-p c = (search rules, search (find-free, not-true))

pub returns-then-p-principal : goal.returns-then-p-principal
returns-then-p-principal c = search (find-here, not-false)

pub loop-i-preserved : goal.loop-i-preserved
loop-i-preserved c = (search rules, search (find-other, not-false))

pub returns : goal.returns
returns c = search find-end
