use Rattle.expression.specs.Working.Searching.{rank-none, rank-some}
use Rattle.expression.proofs.name.rank_of.Goals as goal

pub returns-then-values-i : goal.returns-then-values-i
returns-then-values-i c = search rank-none

pub returns : goal.returns
returns c = search rank-some
