use Rattle.naming.specs.Working.ChainWays.{lone-and, lone-dot, lone-other}
use Rattle.naming.proofs.licensees.is_lone.Goals as goal

pub returns-then-k-eq-AND : goal.returns-then-k-eq-AND
returns-then-k-eq-AND c = search (lone-and, lone-dot, lone-other)

pub returns-then-k-eq-DOT : goal.returns-then-k-eq-DOT
returns-then-k-eq-DOT c = search (lone-and, lone-dot, lone-other)

pub returns : goal.returns
returns c = search (lone-and, lone-dot, lone-other)
