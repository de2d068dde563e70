use Rattle.principal.specs.Working.Comparing.{hex-either, hex-dsa}
use Rattle.principal.proofs.is_hex.Goals as goal

pub returns-then-same_folded : goal.returns-then-same_folded
returns-then-same_folded c = search hex-either

pub returns-else-same_folded : goal.returns-else-same_folded
returns-else-same_folded c = search hex-dsa
