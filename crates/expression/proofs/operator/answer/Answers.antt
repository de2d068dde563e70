use Rattle.expression.specs.Working.Operating.{answer-told, answer-error}
use Rattle.expression.proofs.operator.answer.Goals as goal

pub returns-in-Some : goal.returns-in-Some
returns-in-Some c = search answer-told

pub returns-in-None : goal.returns-in-None
returns-in-None c = search answer-error
