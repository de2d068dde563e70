use Rattle.std.proofs.Common.{rules}
use Rattle.compliance.specs.Working.Machine.{exec-start, exec-more, worth-is}
use Rattle.compliance.proofs.machine.run.Goals as goal

pub loop-op-init : goal.loop-op-init
loop-op-init c = (search rules, search exec-start)

pub loop-op-preserved : goal.loop-op-preserved
loop-op-preserved c = (search rules, search exec-more)

pub returns : goal.returns
returns c = search worth-is
