use Rattle.register.specs.Working.Ways.{new-set, new-kept}
use Rattle.register.proofs.places.with_new.Goals as goal

pub returns-then-i-lt-MOST_PRINCIPALS : goal.returns-then-i-lt-MOST_PRINCIPALS
returns-then-i-lt-MOST_PRINCIPALS c = search new-set

pub returns-else-i-lt-MOST_PRINCIPALS : goal.returns-else-i-lt-MOST_PRINCIPALS
returns-else-i-lt-MOST_PRINCIPALS c = search new-kept
