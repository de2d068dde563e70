use Rattle.expression.specs.Working.Operating.{matches-is}
use Rattle.expression.proofs.operator.match_strings.Goals as goal

pub returns : goal.returns
returns c = search matches-is
