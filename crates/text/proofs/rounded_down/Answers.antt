use Rattle.std.proofs.Common.{rules}
use Rattle.text.specs.Working.Deciding.{down-further}
use Rattle.text.proofs.rounded_down.Goals as goal

pub returns-then-fraction-ne0 : goal.returns-then-fraction-ne0
returns-then-fraction-ne0 c = search (rules, down-further)
