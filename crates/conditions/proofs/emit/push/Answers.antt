use Rattle.conditions.proofs.EmitWays.{push-full, push_kept, push-top, push-set}
use Rattle.conditions.proofs.emit.push.Goals as goal

pub returns-then-code-top : goal.returns-then-code-top
returns-then-code-top c = record { value = search push-full; code_after = search push_kept }

pub returns : goal.returns
returns c = record { value = search push-top; code_after = search push-set }
