use Rattle.journal.specs.Working.Ways.{store-start, answer-more, store-end}
use borrow.Author.Rules.{rules}
use Rattle.journal.proofs.write_answer.Goals as goal

pub loop-j-init : goal.loop-j-init
loop-j-init c = (search rules, search store-start)

pub loop-j-preserved : goal.loop-j-preserved
loop-j-preserved c = (search rules, search answer-more)

pub returns : goal.returns
returns c = search store-end
