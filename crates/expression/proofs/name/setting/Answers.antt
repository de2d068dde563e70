use Rattle.expression.specs.Working.Searching.{setting-none, setting-some}
use Rattle.expression.proofs.name.setting.Goals as goal

pub returns-then-places-i : goal.returns-then-places-i
returns-then-places-i c = search setting-none

pub returns : goal.returns
returns c = search setting-some
