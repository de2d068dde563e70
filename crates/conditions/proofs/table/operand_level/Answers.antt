use Rattle.conditions.specs.Working.Numbered.{operand_level}
use borrow.Author.Rules.{rules}
use Rattle.text.specs.Choice.{tests}
use Rattle.conditions.proofs.table.operand_level.Goals as goal

pub returns-then-op-eq-OPPOSITE : goal.returns-then-op-eq-OPPOSITE
unfolding operand_level
returns-then-op-eq-OPPOSITE c = search (rules, tests)

pub returns : goal.returns
unfolding operand_level
returns c = search (rules, tests)
