use Rattle.machine.specs.Working.Quick.{is_logical, logical-both, logical-none}
use Rattle.text.specs.Choice.{tests}
use borrow.Author.Rules.{rules}
use Rattle.machine.proofs.is_logical.Goals as goal

pub returns-then-op-lt-BOTH : goal.returns-then-op-lt-BOTH
unfolding is_logical
returns-then-op-lt-BOTH c = search (rules, tests)

pub returns-then-op-gt-EITHER : goal.returns-then-op-gt-EITHER
unfolding is_logical
returns-then-op-gt-EITHER c = search (rules, tests)

pub is_told-requires : goal.is_told-requires
is_told-requires c = search (rules, tests)

pub is_told-requires-then-is_told : goal.is_told-requires-then-is_told
is_told-requires-then-is_told c = search (rules, tests)

pub returns-then-is_told : goal.returns-then-is_told
returns-then-is_told c = search logical-both

pub returns : goal.returns
returns c = search logical-none
