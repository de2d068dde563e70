use Rattle.text.specs.Scan.{past-front}
use Rattle.text.proofs.front.Goals as goal

pub loop-i-init : goal.loop-i-init
loop-i-init c = search past-front
