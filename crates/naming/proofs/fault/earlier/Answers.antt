use Rattle.naming.specs.Working.Faults.{first-right, first-left, first-before, first-behind}
use Rattle.naming.proofs.fault.earlier.Goals as goal

pub returns-then-a-eq0 : goal.returns-then-a-eq0
returns-then-a-eq0 c = search first-right

pub returns-then-b-eq0 : goal.returns-then-b-eq0
returns-then-b-eq0 c = search first-left

pub returns-then-a-b : goal.returns-then-a-b
returns-then-a-b c = search first-before

pub returns : goal.returns
returns c = search first-behind
