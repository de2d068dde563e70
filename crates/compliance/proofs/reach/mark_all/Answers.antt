use Rattle.std.proofs.Common.{rules}
use Rattle.compliance.specs.Working.Reach.{mark-start, mark-more, mark-end, spare-on}
use Rattle.compliance.proofs.reach.mark_all.Goals as goal

pub loop-op-init : goal.loop-op-init
loop-op-init c = (search mark-start, search rules)

pub loop-op-preserved : goal.loop-op-preserved
loop-op-preserved c = (search mark-more, search spare-on)

pub returns : goal.returns
returns c = record { reach_after = search mark-end; reach_unchanged = search rules }
