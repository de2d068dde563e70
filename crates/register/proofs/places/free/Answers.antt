use Rattle.register.specs.Working.Ways.{free-here, free_more, free-end}
use Rattle.register.proofs.places.free.Goals as goal

pub returns-then-not-r-i : goal.returns-then-not-r-i
returns-then-not-r-i c = search free-here

pub loop-i-preserved : goal.loop-i-preserved
loop-i-preserved c = search free_more

pub returns : goal.returns
returns c = search free-end
