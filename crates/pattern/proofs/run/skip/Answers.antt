use Rattle.pattern.specs.Working.Skip.{way-skip-end, way-skip-here, way-skip-on}
use Rattle.pattern.proofs.run.skip.Goals as goal

pub loop-i-preserved : goal.loop-i-preserved
loop-i-preserved c = search way-skip-on

pub returns-then-not-is_marked : goal.returns-then-not-is_marked
returns-then-not-is_marked c = search way-skip-here

pub returns : goal.returns
returns c = way-skip-end _ _ _ _ _ _ c.saturating_sub-last.ensures c.loop-i.auto.i-end c.loop-i-test.false c.loop-i.invariant c.max.ensures
