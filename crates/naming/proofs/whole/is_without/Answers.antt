use Rattle.naming.specs.Working.Whole.{bytes-none, bytes-done, without-held, without_more}
use Rattle.naming.proofs.whole.is_without.Goals.{then-s-i, else-s-i}
use Rattle.naming.proofs.whole.is_without.Goals as goal

pub loop-j-init : goal.loop-j-init
loop-j-init c = search bytes-none

pub loop-j-preserved : goal.loop-j-preserved
loop-j-preserved c = elim c.if-s-i.branch [ then-s-i w ↦ search without-held | else-s-i w ↦ search without_more ]

pub returns : goal.returns
returns c = search bytes-done
