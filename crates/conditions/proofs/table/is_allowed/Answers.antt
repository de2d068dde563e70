use Rattle.conditions.specs.Working.Numbered.{allows}
use Rattle.text.specs.Choice.{tests}
use borrow.Author.Rules.{rules}
use Rattle.conditions.proofs.table.is_allowed.Goals as goal

pub returns-then-k-eq-OPEN : goal.returns-then-k-eq-OPEN
unfolding allows
returns-then-k-eq-OPEN c = search (rules, tests)

pub is_string-requires : goal.is_string-requires
is_string-requires c = search (rules, tests)

pub returns-then-want-eq-TEXT : goal.returns-then-want-eq-TEXT
unfolding allows
returns-then-want-eq-TEXT c = search (rules, tests)

pub is_number-requires : goal.is_number-requires
is_number-requires c = search (rules, tests)

pub returns-then-want-eq-INTEGER : goal.returns-then-want-eq-INTEGER
unfolding allows
returns-then-want-eq-INTEGER c = search (rules, tests)

pub is_float-requires : goal.is_float-requires
is_float-requires c = search (rules, tests)

pub returns-then-want-eq-FLOAT : goal.returns-then-want-eq-FLOAT
unfolding allows
returns-then-want-eq-FLOAT c = search (rules, tests)

pub is_begun-requires : goal.is_begun-requires
is_begun-requires c = search (rules, tests)

pub returns : goal.returns
unfolding allows
returns c = search (rules, tests)
