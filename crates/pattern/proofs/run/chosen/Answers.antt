use borrow.Author.Rules.{rules}
use Rattle.text.specs.Choice.{tests}
use Rattle.pattern.specs.Working.Sim.{chosen}
use Rattle.pattern.proofs.run.chosen.Goals as goal

pub returns-then-e : goal.returns-then-e
unfolding chosen
returns-then-e c = search (rules, tests)

pub returns-else-e : goal.returns-else-e
unfolding chosen
returns-else-e c = search (rules, tests)
