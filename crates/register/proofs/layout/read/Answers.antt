use Rattle.register.specs.Working.Bytes.{read-start, read_more, read_done}
use borrow.Author.Rules.{rules}
use Rattle.register.proofs.layout.read.Goals as goal

pub loop-i-init : goal.loop-i-init
loop-i-init c = (search rules, search read-start)

pub loop-i-preserved : goal.loop-i-preserved
loop-i-preserved c = (search rules, search read_more)

pub returns : goal.returns
returns c = search read_done
