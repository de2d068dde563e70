use Rattle.pattern.specs.Working.Places.{way-link-done, way-link-end, way-link-more}
use Rattle.pattern.proofs.rows.link_word.Goals as goal

pub returns-then-x-eq0 : goal.returns-then-x-eq0
returns-then-x-eq0 c = search way-link-done

pub loop-q-preserved : goal.loop-q-preserved
loop-q-preserved c = search way-link-more

pub returns : goal.returns
returns c = search way-link-end
