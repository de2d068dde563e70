use borrow.Author.Rules.{rules}
use Rattle.naming.specs.Working.Whole.{bytes-start, byte_more, byte-stops, byte_last}
use Rattle.naming.proofs.whole.is_clear_short.Goals as goal

pub loop-a-init : goal.loop-a-init
loop-a-init c = (search rules, search rules, search bytes-start)

pub loop-a-preserved : goal.loop-a-preserved
loop-a-preserved c = (search rules, search rules, search byte_more)

pub returns-then-not-is_clear_byte : goal.returns-then-not-is_clear_byte
returns-then-not-is_clear_byte c = search byte-stops

pub returns : goal.returns
returns c = search byte_last
