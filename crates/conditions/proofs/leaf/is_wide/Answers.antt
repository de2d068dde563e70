use Rattle.conditions.proofs.LeafWays.{wide-none}
use Rattle.text.specs.Choice.{tests}
use borrow.Author.Rules.{rules}
use Rattle.conditions.proofs.leaf.is_wide.Goals as goal

pub returns-then-end-start : goal.returns-then-end-start
returns-then-end-start c = search wide-none

pub overflow_sub-result : goal.overflow_sub-result
overflow_sub-result c = search (rules, tests)

pub returns : goal.returns
returns c = search (rules, tests)
