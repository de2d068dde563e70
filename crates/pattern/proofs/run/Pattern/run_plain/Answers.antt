use Rattle.pattern.specs.Working.Sim.{way-run-end, way-run-hit, way-run-more}
use Rattle.pattern.proofs.run.Pattern.run_plain.Goals as goal

pub returns-then-r-eq1 : goal.returns-then-r-eq1
returns-then-r-eq1 c = search way-run-hit

pub loop-i-preserved : goal.loop-i-preserved
loop-i-preserved c = search (way-run-more _ _ _ _ _ _ _ _ _ c.before.before.before.before.before.before.before.loop-i.invariant c.before.before.before.before.before.before.loop-i-test.true _ c.before.before.before.before.before.chosen-last.ensures _ c.before.before.before.step-r.ensures c.before.if-r-eq1.false)

pub returns : goal.returns
returns c = search way-run-end
