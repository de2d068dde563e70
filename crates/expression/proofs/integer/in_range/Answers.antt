use Rattle.expression.specs.Working.Arithmetic.{range-zero, range-below, range-negative, range-above, range-positive}
use Rattle.expression.proofs.integer.in_range.Goals as goal

pub returns-then-size-eq0 : goal.returns-then-size-eq0
returns-then-size-eq0 c = search range-zero

pub returns-then-size-gt-LEAST : goal.returns-then-size-gt-LEAST
returns-then-size-gt-LEAST c = search range-below

pub returns-then-negative : goal.returns-then-negative
returns-then-negative c = search range-negative

pub returns-then-size-ge-LEAST : goal.returns-then-size-ge-LEAST
returns-then-size-ge-LEAST c = search range-above

pub returns : goal.returns
returns c = search range-positive
