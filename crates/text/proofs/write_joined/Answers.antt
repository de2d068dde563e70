use Rattle.text.specs.Working.Joining.{joins-start, joins-room, joins-more, joins-end}
use Rattle.std.proofs.Common.{rules}
use Rattle.text.proofs.write_joined.Goals as goal

pub loop-i-init : goal.loop-i-init
loop-i-init c = search joins-start

pub overflow_add-to : goal.overflow_add-to
overflow_add-to c = let w = joins-room _ _ _ _ _ _ _ c.loop-i.invariant c.loop-i-test.true _ c.lead.ensures _ c.counted_at-item.ensures in search rules

pub overflow_add-to-in-loop-i : goal.overflow_add-to-in-loop-i
overflow_add-to-in-loop-i c = let w = joins-room _ _ _ _ _ _ _ c.loop-i.invariant c.loop-i-test.true _ c.lead.ensures _ c.counted_at-item.ensures in search rules

pub loop-i-preserved : goal.loop-i-preserved
loop-i-preserved c = search joins-more

pub returns : goal.returns
returns c = search joins-end
