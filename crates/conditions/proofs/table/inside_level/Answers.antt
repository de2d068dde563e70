use Rattle.conditions.specs.Working.Numbered.{inside_level}
use borrow.Author.Rules.{rules}
use Rattle.text.specs.Choice.{tests}
use Rattle.conditions.proofs.table.inside_level.Goals as goal

pub returns-then-want-eq-ANY : goal.returns-then-want-eq-ANY
unfolding inside_level
returns-then-want-eq-ANY c = search (rules, tests)

pub returns : goal.returns
unfolding inside_level
returns c = search (rules, tests)
