use Rattle.fields.specs.Working.Setting.{value-full, value-long, value_none, value_on}
use Rattle.fields.proofs.constants.valued.Goals as goal

pub returns-then-v-ne-LITERAL : goal.returns-then-v-ne-LITERAL
returns-then-v-ne-LITERAL c = search value_none

pub returns-then-not-is_fitting : goal.returns-then-not-is_fitting
returns-then-not-is_fitting c = search value-long

pub returns-in-None : goal.returns-in-None
returns-in-None c = search value-full

pub returns-in-Some : goal.returns-in-Some
returns-in-Some c = search value_on
