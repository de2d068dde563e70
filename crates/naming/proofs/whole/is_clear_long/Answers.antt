use Rattle.naming.specs.Working.Whole.{bytes-start, block_more, block-stops, block_last}
use borrow.Author.Rules.{rules}
use Rattle.naming.proofs.whole.is_clear_long.Goals as goal

pub loop-a-init : goal.loop-a-init
loop-a-init c = (search rules, search rules, search bytes-start)

pub loop-a-preserved : goal.loop-a-preserved
loop-a-preserved c = (search rules, search rules, search block_more)

pub returns-else-is_clear : goal.returns-else-is_clear
returns-else-is_clear c = search block-stops

pub returns : goal.returns
returns c = search block_last
