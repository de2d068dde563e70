use Rattle.index.specs.Working.Walking.{child-even, child-odd}
use Rattle.index.proofs.child_of.Goals as goal

pub returns-then-t-eq0 : goal.returns-then-t-eq0
returns-then-t-eq0 c = search child-even

pub returns : goal.returns
returns c = search child-odd
