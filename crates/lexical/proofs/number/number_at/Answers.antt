use Rattle.std.proofs.Common.{arith}
use Rattle.lexical.proofs.NumberWays.{number-start, number_more, number-end}
use Rattle.lexical.proofs.number.number_at.Goals as goal

pub loop-i-init : goal.loop-i-init
loop-i-init c = (search number-start, omega arith)

pub loop-i-preserved : goal.loop-i-preserved
loop-i-preserved c = (search number_more, omega arith)

pub returns : goal.returns
returns c = search number-end
