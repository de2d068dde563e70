use Rattle.conditions.specs.Working.Numbered.{level_of}
use Rattle.text.specs.Choice.{tests}
use borrow.Author.Rules.{rules}
use Rattle.conditions.proofs.table.level_of.Goals as goal

pub level_above-requires : goal.level_above-requires
level_above-requires c = search (rules, tests)

pub returns-then-op-gt-MINUS : goal.returns-then-op-gt-MINUS
unfolding level_of
returns-then-op-gt-MINUS c = record { value = search (rules, tests); upper_bound = search rules }

pub returns-then-op-gt-REMAINDER : goal.returns-then-op-gt-REMAINDER
unfolding level_of
returns-then-op-gt-REMAINDER c = record { value = search (rules, tests); upper_bound = search rules }

pub returns-then-op-eq-POWER : goal.returns-then-op-eq-POWER
unfolding level_of
returns-then-op-eq-POWER c = record { value = search (rules, tests); upper_bound = search rules }

pub returns-then-op-eq-JOIN : goal.returns-then-op-eq-JOIN
unfolding level_of
returns-then-op-eq-JOIN c = record { value = search (rules, tests); upper_bound = search rules }

pub returns : goal.returns
unfolding level_of
returns c = record { value = search (rules, tests); upper_bound = search rules }
