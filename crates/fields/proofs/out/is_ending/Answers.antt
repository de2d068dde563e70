use Rattle.lexical.specs.Kind.{ending}
use Rattle.text.specs.Choice.{tests}
use borrow.Author.Rules.{rules}
use Rattle.fields.proofs.out.is_ending.Goals as goal

pub returns-then-k-eq-END : goal.returns-then-k-eq-END
unfolding ending
returns-then-k-eq-END c = search (rules, tests)

pub returns-then-k-lt-KEYNOTE_VERSION : goal.returns-then-k-lt-KEYNOTE_VERSION
unfolding ending
returns-then-k-lt-KEYNOTE_VERSION c = search (rules, tests)

pub returns : goal.returns
unfolding ending
returns c = search (rules, tests)
