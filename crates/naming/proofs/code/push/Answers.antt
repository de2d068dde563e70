use Rattle.naming.specs.Working.Code.{above-full, above-room, pushed-full, pushed_room}
use Rattle.naming.proofs.code.push.Goals as goal

pub returns-then-code-size : goal.returns-then-code-size
returns-then-code-size c = record { value = search above-full; code_after = search pushed-full }

pub returns : goal.returns
returns c = record { value = search above-room; code_after = search pushed_room }
