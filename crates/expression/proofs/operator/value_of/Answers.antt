use Rattle.expression.specs.Working.Operating.{value-finite, value-error}
use Rattle.expression.proofs.operator.value_of.Goals as goal

pub returns-in-Some : goal.returns-in-Some
returns-in-Some c = search value-finite

pub returns-in-None : goal.returns-in-None
returns-in-None c = search value-error
