use Rattle.conditions.specs.Working.Numbered.{result_above}
use borrow.Author.Rules.{rules}
use Rattle.text.specs.Choice.{tests}
use Rattle.conditions.proofs.table.result_above.Goals as goal

pub returns-then-op-gt-FLOAT_MINUS : goal.returns-then-op-gt-FLOAT_MINUS
unfolding result_above
returns-then-op-gt-FLOAT_MINUS c = search (rules, tests)

pub returns-then-op-gt-AT_LEAST : goal.returns-then-op-gt-AT_LEAST
unfolding result_above
returns-then-op-gt-AT_LEAST c = search (rules, tests)

pub returns : goal.returns
unfolding result_above
returns c = search (rules, tests)
