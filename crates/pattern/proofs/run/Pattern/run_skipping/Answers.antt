use Rattle.pattern.specs.Working.Sim.{way-run-end}
use Rattle.pattern.specs.Working.Skip.{skip-end, skip-less, skip-hit, skip-more}
use Rattle.pattern.proofs.run.Pattern.run_skipping.Goals as goal

pub returns-then-s-j : goal.returns-then-s-j
returns-then-s-j c = search skip-end

pub returns-then-r-eq1 : goal.returns-then-r-eq1
returns-then-r-eq1 c = search skip-hit

pub loop-i-smaller : goal.loop-i-smaller
loop-i-smaller c = search skip-less

pub loop-i-preserved : goal.loop-i-preserved
loop-i-preserved c = search skip-more

pub returns : goal.returns
returns c = search way-run-end
