use Rattle.conditions.specs.Working.Numbered.{right_want}
use Rattle.text.specs.Choice.{tests}
use borrow.Author.Rules.{rules}
use Rattle.conditions.proofs.table.right_want.Goals as goal

pub operand_of-requires : goal.operand_of-requires
operand_of-requires c = search (rules, tests)

pub returns : goal.returns
unfolding right_want
returns c = search (rules, tests)
