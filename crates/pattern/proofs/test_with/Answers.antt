use Rattle.pattern.specs.Working.Sim.{way_test, way-test-bad, way-test-long, way-test-short}
use Rattle.pattern.proofs.test_with.Goals as goal

pub returns-then-p-gt-MOST_PATTERN : goal.returns-then-p-gt-MOST_PATTERN
returns-then-p-gt-MOST_PATTERN c = search way-test-long

pub returns-in_err-part : goal.returns-in_err-part
returns-in_err-part c = rw c.from_residual.ensures (search (way-test-bad, c.in_err-part.was))

pub returns-then-next-p : goal.returns-then-next-p
returns-then-next-p c = search (way_test, c.in_ok-part.was)

pub returns : goal.returns
returns c = search (way-test-short, c.in_ok-part.was)
