use Rattle.conditions.specs.Working.Numbered.{result_of}
use Rattle.text.specs.Choice.{tests}
use borrow.Author.Rules.{rules}
use Rattle.conditions.proofs.table.result_of.Goals as goal

pub result_above-requires : goal.result_above-requires
result_above-requires c = search (rules, tests)

pub returns-then-op-gt-MINUS : goal.returns-then-op-gt-MINUS
unfolding result_of
returns-then-op-gt-MINUS c = search (rules, tests)

pub returns-then-op-gt-JOIN : goal.returns-then-op-gt-JOIN
unfolding result_of
returns-then-op-gt-JOIN c = search (rules, tests)

pub returns-then-op-eq-OPPOSITE : goal.returns-then-op-eq-OPPOSITE
unfolding result_of
returns-then-op-eq-OPPOSITE c = search (rules, tests)

pub returns-then-op-eq-LOOKUP : goal.returns-then-op-eq-LOOKUP
unfolding result_of
returns-then-op-eq-LOOKUP c = search (rules, tests)

pub returns-then-op-eq-JOIN : goal.returns-then-op-eq-JOIN
unfolding result_of
returns-then-op-eq-JOIN c = search (rules, tests)

pub returns-then-op-gt-OPPOSITE : goal.returns-then-op-gt-OPPOSITE
unfolding result_of
returns-then-op-gt-OPPOSITE c = search (rules, tests)

pub returns : goal.returns
unfolding result_of
returns c = search (rules, tests)
