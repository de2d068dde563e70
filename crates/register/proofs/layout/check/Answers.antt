use Rattle.register.specs.Working.Bytes.{check-length, check-version, check-start, check-bad, check-more, check-end}
use Rattle.register.proofs.layout.check.Goals as goal

pub returns-then-s-ne-BYTES : goal.returns-then-s-ne-BYTES
returns-then-s-ne-BYTES c = search check-length

pub returns-then-s-ne-VERSION : goal.returns-then-s-ne-VERSION
returns-then-s-ne-VERSION c = search check-version

pub loop-i-init : goal.loop-i-init
loop-i-init c = search check-start

pub returns-then-s-place-gt1 : goal.returns-then-s-place-gt1
returns-then-s-place-gt1 c = search check-bad

pub loop-i-preserved : goal.loop-i-preserved
loop-i-preserved c = search check-more

pub returns : goal.returns
returns c = search check-end
