use Rattle.conditions.specs.Working.Numbered.{level_above}
use borrow.Author.Rules.{rules}
use Rattle.text.specs.Choice.{tests}
use Rattle.conditions.proofs.table.level_above.Goals as goal

pub returns-then-op-lt-FLOAT_POWER : goal.returns-then-op-lt-FLOAT_POWER
unfolding level_above
returns-then-op-lt-FLOAT_POWER c = record { value = search (rules, tests); upper_bound = search rules }

pub returns-then-op-lt-BOTH : goal.returns-then-op-lt-BOTH
unfolding level_above
returns-then-op-lt-BOTH c = record { value = search (rules, tests); upper_bound = search rules }

pub returns-then-op-eq-BOTH : goal.returns-then-op-eq-BOTH
unfolding level_above
returns-then-op-eq-BOTH c = record { value = search (rules, tests); upper_bound = search rules }

pub returns-then-op-gt-FLOAT_MINUS : goal.returns-then-op-gt-FLOAT_MINUS
unfolding level_above
returns-then-op-gt-FLOAT_MINUS c = record { value = search (rules, tests); upper_bound = search rules }

pub returns-then-op-gt-FLOAT_OVER : goal.returns-then-op-gt-FLOAT_OVER
unfolding level_above
returns-then-op-gt-FLOAT_OVER c = record { value = search (rules, tests); upper_bound = search rules }

pub returns-then-op-eq-FLOAT_POWER : goal.returns-then-op-eq-FLOAT_POWER
unfolding level_above
returns-then-op-eq-FLOAT_POWER c = record { value = search (rules, tests); upper_bound = search rules }

pub returns : goal.returns
unfolding level_above
returns c = record { value = search (rules, tests); upper_bound = search rules }
