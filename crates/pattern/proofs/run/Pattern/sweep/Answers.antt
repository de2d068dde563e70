use Rattle.pattern.specs.Working.Sim.{way-sweep-done, way-sweep-end, way-sweep-past, way-sweep-place}
use Rattle.pattern.proofs.run.Pattern.sweep.Goals as goal

pub returns-then-x-eq0 : goal.returns-then-x-eq0
returns-then-x-eq0 c = search way-sweep-done

pub returns-then-end-q : goal.returns-then-end-q
returns-then-end-q c = search way-sweep-past

pub loop-q-preserved : goal.loop-q-preserved
loop-q-preserved c = search way-sweep-place

pub returns : goal.returns
returns c = search way-sweep-end
