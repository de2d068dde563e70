use Rattle.lexical.proofs.LineWays.{token-below}
use Rattle.lexical.proofs.line.token_at.Goals as goal

pub returns-then-t-eq-NEXT : goal.returns-then-t-eq-NEXT
returns-then-t-eq-NEXT c = search token-below
