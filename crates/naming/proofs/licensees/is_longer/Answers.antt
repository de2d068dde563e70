use Rattle.naming.specs.Working.ChainWays.{longer-not, longer-less, longer-one}
use Rattle.naming.proofs.licensees.is_longer.Goals as goal

pub returns-then-k-ne-DOT : goal.returns-then-k-ne-DOT
returns-then-k-ne-DOT c = search (longer-not, longer-less, longer-one)

pub returns-then-u-st : goal.returns-then-u-st
returns-then-u-st c = search (longer-not, longer-less, longer-one)

pub returns : goal.returns
returns c = search (longer-not, longer-less, longer-one)
