use Rattle.conditions.specs.Working.Numbered.{operand_above}
use borrow.Author.Rules.{rules}
use Rattle.text.specs.Choice.{tests}
use Rattle.conditions.proofs.table.operand_above.Goals as goal

pub returns-then-op-lt-BOTH : goal.returns-then-op-lt-BOTH
unfolding operand_above
returns-then-op-lt-BOTH c = search (rules, tests)

pub returns-then-op-gt-AT_LEAST : goal.returns-then-op-gt-AT_LEAST
unfolding operand_above
returns-then-op-gt-AT_LEAST c = search (rules, tests)

pub returns-then-op-gt-MATCHES : goal.returns-then-op-gt-MATCHES
unfolding operand_above
returns-then-op-gt-MATCHES c = search (rules, tests)

pub returns : goal.returns
unfolding operand_above
returns c = search (rules, tests)
