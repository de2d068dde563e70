use Rattle.expression.specs.Working.Searching.{string-none, string-some}
use Rattle.expression.proofs.name.string_at.Goals as goal

pub returns-then-places-i : goal.returns-then-places-i
returns-then-places-i c = search string-none

pub returns : goal.returns
returns c = search string-some
