use Rattle.expression.specs.Working.Operating.{in-text, in-number, in-test, in-rank, in_float, in-fault}
use Rattle.expression.proofs.value.integer_in.Goals as goal

pub returns-in-Text : goal.returns-in-Text
returns-in-Text c = search in-text

pub returns-in-Number : goal.returns-in-Number
returns-in-Number c = search in-number

pub returns-in-Test : goal.returns-in-Test
returns-in-Test c = search in-test

pub returns-in-Rank : goal.returns-in-Rank
returns-in-Rank c = search in-rank

pub returns-in-Float : goal.returns-in-Float
returns-in-Float c = search in_float

pub returns-in-Fault : goal.returns-in-Fault
returns-in-Fault c = search in-fault
