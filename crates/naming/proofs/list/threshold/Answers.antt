use Rattle.naming.specs.Working.ListWays.{threshold-none, threshold-high, threshold-not, threshold-of}
use Rattle.naming.proofs.list.threshold.Goals as goal

pub returns-then-k-eq0 : goal.returns-then-k-eq0
returns-then-k-eq0 c = search (threshold-none, threshold-high, threshold-not, threshold-of)

pub returns-then-k-gt16 : goal.returns-then-k-gt16
returns-then-k-gt16 c = search (threshold-none, threshold-high, threshold-not, threshold-of)

pub returns-then-o-ne-OF : goal.returns-then-o-ne-OF
returns-then-o-ne-OF c = search (threshold-none, threshold-high, threshold-not, threshold-of)

pub returns : goal.returns
returns c = search (threshold-none, threshold-high, threshold-not, threshold-of)
