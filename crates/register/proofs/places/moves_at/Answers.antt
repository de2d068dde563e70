use Rattle.register.specs.Working.Ways.{moves-in, moves_out}
use Rattle.register.proofs.places.moves_at.Goals as goal

pub returns-then-i-lt-MOST_PRINCIPALS : goal.returns-then-i-lt-MOST_PRINCIPALS
returns-then-i-lt-MOST_PRINCIPALS c = search moves-in

pub returns : goal.returns
returns c = search moves_out
