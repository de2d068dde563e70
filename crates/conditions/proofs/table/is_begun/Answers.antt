use Rattle.conditions.proofs.TableWays.{begins-float, begins-none, begins-not, begins-number, begins-string}
use Rattle.text.specs.Choice.{tests}
use borrow.Author.Rules.{rules}
use Rattle.conditions.proofs.table.is_begun.Goals as goal

pub is_number-requires : goal.is_number-requires
is_number-requires c = search (rules, tests)

pub returns-then-is_number : goal.returns-then-is_number
returns-then-is_number c = search begins-number

pub is_float-requires : goal.is_float-requires
is_float-requires c = search (rules, tests)

pub returns-then-is_float : goal.returns-then-is_float
returns-then-is_float c = search begins-float

pub returns-then-want-eq-NUMBER : goal.returns-then-want-eq-NUMBER
returns-then-want-eq-NUMBER c = search begins-none

pub returns-then-k-eq-NOT : goal.returns-then-k-eq-NOT
returns-then-k-eq-NOT c = search begins-not

pub is_string-requires : goal.is_string-requires
is_string-requires c = search (rules, tests)

pub returns : goal.returns
returns c = search begins-string
