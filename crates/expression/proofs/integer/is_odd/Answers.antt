use Rattle.text.specs.Choice.{tests}
use Rattle.expression.specs.Integers.{odd}
use borrow.Author.Rules.{rules}
use Rattle.expression.proofs.integer.is_odd.Goals as goal

pub returns : goal.returns
unfolding odd
returns c = search (rules, tests)
