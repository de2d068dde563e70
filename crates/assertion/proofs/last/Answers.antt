use Rattle.assertion.specs.Working.ReadingWays.{last-finished, last-fault, last-again, last-signed}
use Rattle.assertion.proofs.last.Goals as goal

pub returns-then-t-eq-END : goal.returns-then-t-eq-END
returns-then-t-eq-END c = search last-finished

pub returns-then-not-is_ending : goal.returns-then-not-is_ending
returns-then-not-is_ending c = search last-fault

pub returns-then-not-is_free : goal.returns-then-not-is_free
returns-then-not-is_free c = search last-again

pub returns : goal.returns
returns c = search last-signed
