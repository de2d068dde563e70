use Rattle.text.specs.Working.Holding.{digits-start, digits_more, digits-stop, digits-end}
use Rattle.text.proofs.number_from.Goals as goal

pub loop-i-init : goal.loop-i-init
loop-i-init c = search digits-start

pub returns-then-not-is_digit : goal.returns-then-not-is_digit
returns-then-not-is_digit c = search digits-stop

pub loop-i-preserved : goal.loop-i-preserved
loop-i-preserved c = search digits_more

pub returns : goal.returns
returns c = search digits-end
