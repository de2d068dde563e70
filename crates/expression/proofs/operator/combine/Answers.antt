use Rattle.expression.specs.Working.Operating.{combine-binary, combine-valued, combine-nested, combine-raise}
use Rattle.expression.proofs.operator.combine.Goals as goal

pub returns-then-op-le-EITHER : goal.returns-then-op-le-EITHER
returns-then-op-le-EITHER c = search combine-binary

pub returns-then-op-eq-VALUED : goal.returns-then-op-eq-VALUED
returns-then-op-eq-VALUED c = search combine-valued

pub returns-then-op-eq-NESTED : goal.returns-then-op-eq-NESTED
returns-then-op-eq-NESTED c = search combine-nested

pub returns : goal.returns
returns c = search combine-raise
