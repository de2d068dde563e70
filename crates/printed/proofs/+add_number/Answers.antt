use Rattle.printed.specs.Working.Adding.{number-low, number-high}
use Rattle.printed.proofs.+add_number.Goals as goal

pub returns-then-n-lt10 : goal.returns-then-n-lt10
returns-then-n-lt10 t c = search number-low

pub returns : goal.returns
returns t c = search number-high
