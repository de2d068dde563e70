use Rattle.register.specs.Working.Ways.{moves_set, moves-kept}
use Rattle.register.proofs.places.with_moves.Goals as goal

pub returns-then-i-lt-MOST_PRINCIPALS : goal.returns-then-i-lt-MOST_PRINCIPALS
returns-then-i-lt-MOST_PRINCIPALS c = search moves_set

pub returns-else-i-lt-MOST_PRINCIPALS : goal.returns-else-i-lt-MOST_PRINCIPALS
returns-else-i-lt-MOST_PRINCIPALS c = search moves-kept
