use Rattle.text.specs.Choice.{tests}
use Rattle.expression.specs.Working.Numbered.{is_textual}
use borrow.Author.Rules.{rules}
use Rattle.expression.proofs.operator.is_textual.Goals as goal

pub returns-then-op-eq-JOIN : goal.returns-then-op-eq-JOIN
unfolding is_textual
returns-then-op-eq-JOIN c = search (rules, tests)

pub returns-then-op-le-MINUS : goal.returns-then-op-le-MINUS
unfolding is_textual
returns-then-op-le-MINUS c = search (rules, tests)

pub returns : goal.returns
unfolding is_textual
returns c = search (rules, tests)
