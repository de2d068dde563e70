use Rattle.compliance.specs.Working.RoundWays.{raise-in, raise-out}
use Rattle.compliance.proofs.rounds.raise.Goals as goal

pub returns-then-i-next : goal.returns-then-i-next
returns-then-i-next c = search raise-in

pub returns-else-i-next : goal.returns-else-i-next
returns-else-i-next c = search raise-out
