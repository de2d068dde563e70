use Rattle.conditions.specs.Working.Numbered.{operand_want}
use borrow.Author.Rules.{rules}
use Rattle.text.specs.Choice.{tests}
use Rattle.conditions.proofs.table.operand_want.Goals as goal

pub returns-then-op-eq-OPPOSITE : goal.returns-then-op-eq-OPPOSITE
unfolding operand_want
returns-then-op-eq-OPPOSITE c = search (rules, tests)

pub returns-then-want-eq-ANY : goal.returns-then-want-eq-ANY
unfolding operand_want
returns-then-want-eq-ANY c = search (rules, tests)

pub returns-then-op-eq-NEGATE : goal.returns-then-op-eq-NEGATE
unfolding operand_want
returns-then-op-eq-NEGATE c = search (rules, tests)

pub returns-then-op-eq-FLOAT_NEGATE : goal.returns-then-op-eq-FLOAT_NEGATE
unfolding operand_want
returns-then-op-eq-FLOAT_NEGATE c = search (rules, tests)

pub returns : goal.returns
unfolding operand_want
returns c = search (rules, tests)
