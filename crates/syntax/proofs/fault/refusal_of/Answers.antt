use Rattle.syntax.specs.Parsed.{refusal}
use Rattle.text.specs.Choice.{tests}
use borrow.Author.Rules.{rules}
use Rattle.syntax.proofs.fault.refusal_of.Goals as goal

pub returns-then-k-eq-ILLEGAL : goal.returns-then-k-eq-ILLEGAL
unfolding refusal
returns-then-k-eq-ILLEGAL c = search (rules, tests)

pub returns-then-k-eq-BAD_LINE : goal.returns-then-k-eq-BAD_LINE
unfolding refusal
returns-then-k-eq-BAD_LINE c = search (rules, tests)

pub returns : goal.returns
unfolding refusal
returns c = search (rules, tests)
