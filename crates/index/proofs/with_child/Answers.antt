use Rattle.index.specs.Working.Walking.{linked-even, linked-odd}
use Rattle.index.proofs.with_child.Goals as goal

pub returns-then-t-eq0 : goal.returns-then-t-eq0
returns-then-t-eq0 c = search linked-even

pub returns : goal.returns
returns c = search linked-odd
