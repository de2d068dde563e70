use Rattle.machine.specs.Working.Stepping.{binary-none}
use Rattle.machine.specs.Working.Quick.{natural-step, logical-step}
use Rattle.machine.specs.Working.Alike.{alike-step}
use Rattle.machine.specs.Working.Joining.{join_step}
use Rattle.machine.proofs.operator_step.Goals as goal

pub returns-then-n-lt4 : goal.returns-then-n-lt4
returns-then-n-lt4 c = search binary-none

pub returns-then-is_natural : goal.returns-then-is_natural
returns-then-is_natural c = search natural-step

pub returns-then-is_logical : goal.returns-then-is_logical
returns-then-is_logical c = search logical-step

pub returns-then-is_alike : goal.returns-then-is_alike
returns-then-is_alike c = search alike-step

pub returns-then-is_joining : goal.returns-then-is_joining
returns-then-is_joining c = search join_step
