use Rattle.conditions.specs.Working.Numbered.{operand_of}
use Rattle.text.specs.Choice.{tests}
use borrow.Author.Rules.{rules}
use Rattle.conditions.proofs.table.operand_of.Goals as goal

pub operand_above-requires : goal.operand_above-requires
operand_above-requires c = search (rules, tests)

pub returns-then-op-gt-MINUS : goal.returns-then-op-gt-MINUS
unfolding operand_of
returns-then-op-gt-MINUS c = search (rules, tests)

pub returns-then-op-gt-JOIN : goal.returns-then-op-gt-JOIN
unfolding operand_of
returns-then-op-gt-JOIN c = search (rules, tests)

pub returns-then-op-eq-NEGATE : goal.returns-then-op-eq-NEGATE
unfolding operand_of
returns-then-op-eq-NEGATE c = search (rules, tests)

pub returns-then-op-eq-OPPOSITE : goal.returns-then-op-eq-OPPOSITE
unfolding operand_of
returns-then-op-eq-OPPOSITE c = search (rules, tests)

pub returns-then-op-eq-FLOAT_NEGATE : goal.returns-then-op-eq-FLOAT_NEGATE
unfolding operand_of
returns-then-op-eq-FLOAT_NEGATE c = search (rules, tests)

pub returns : goal.returns
unfolding operand_of
returns c = search (rules, tests)
