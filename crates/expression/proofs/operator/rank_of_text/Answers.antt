use Rattle.expression.specs.Working.Operating.{rank-text, rank-other}
use Rattle.expression.proofs.operator.rank_of_text.Goals as goal

pub returns-then-is_text : goal.returns-then-is_text
returns-then-is_text c = search rank-text

pub returns : goal.returns
returns c = search rank-other
