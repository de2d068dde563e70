use Rattle.fields.specs.Working.Setting.{assign-none, assign-on}
use Rattle.fields.proofs.constants.assigned.Goals as goal

pub returns-then-a-ne-ASSIGN : goal.returns-then-a-ne-ASSIGN
returns-then-a-ne-ASSIGN c = search assign-none

pub returns : goal.returns
returns c = search assign-on
