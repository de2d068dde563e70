use Rattle.naming.specs.Working.Whole.{bytes-none, bytes-done, printed-not, printed-more}
use Rattle.naming.proofs.whole.is_printed.Goals.{then-s-i-lt32, else-s-i-lt32}
use Rattle.naming.proofs.whole.is_printed.Goals as goal

pub loop-j-init : goal.loop-j-init
loop-j-init c = search bytes-none

pub loop-j-preserved : goal.loop-j-preserved
loop-j-preserved c = elim c.if-s-i-lt32.branch [ then-s-i-lt32 w ↦ search printed-not | else-s-i-lt32 w ↦ search printed-more ]

pub returns : goal.returns
returns c = search bytes-done
