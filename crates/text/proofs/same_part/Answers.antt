use Rattle.text.specs.Working.Blocks.{alike-none, alike-more, alike-done}
use Rattle.text.proofs.same_part.Goals as goal

pub loop-j-init : goal.loop-j-init
loop-j-init c = search alike-none

pub loop-j-preserved : goal.loop-j-preserved
loop-j-preserved c = search alike-more

pub returns : goal.returns
returns c = search alike-done
