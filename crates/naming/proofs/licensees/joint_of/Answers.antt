use Rattle.naming.specs.Working.ChainWays.{joint-all, joint-any}
use Rattle.naming.proofs.licensees.joint_of.Goals as goal

pub returns-then-level-eq-ALL : goal.returns-then-level-eq-ALL
returns-then-level-eq-ALL c = search (joint-all, joint-any)

pub returns : goal.returns
returns c = search (joint-all, joint-any)
