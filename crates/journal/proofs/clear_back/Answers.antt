use Rattle.journal.specs.Working.Ways.{store-start, store-end}
use Rattle.journal.proofs.Working.Ways.{clear-more}
use borrow.Author.Rules.{rules}
use Rattle.journal.proofs.clear_back.Goals as goal

pub loop-j-init : goal.loop-j-init
loop-j-init c = (search rules, search store-start)

pub loop-j-preserved : goal.loop-j-preserved
loop-j-preserved c = (search rules, search clear-more)

pub returns : goal.returns
returns c = search store-end
