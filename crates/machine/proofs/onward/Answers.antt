use Rattle.machine.specs.Working.Ending.{onward-few, onward-passed, onward-ranked, onward-other}
use Rattle.machine.proofs.onward.Goals as goal

pub returns-then-n-lt2 : goal.returns-then-n-lt2
returns-then-n-lt2 c = search onward-few

pub returns-then-stack-n-eq3 : goal.returns-then-stack-n-eq3
returns-then-stack-n-eq3 c = search onward-passed

pub returns-then-stack-n-eq5 : goal.returns-then-stack-n-eq5
returns-then-stack-n-eq5 c = search onward-ranked

pub returns : goal.returns
returns c = search onward-other
