use Rattle.naming.specs.Working.ListWays.{over-not, over-string}
use Rattle.naming.proofs.list.is_over.Goals as goal

pub returns-then-listed-lt-MOST_LICENSEES : goal.returns-then-listed-lt-MOST_LICENSEES
returns-then-listed-lt-MOST_LICENSEES c = search (over-not, over-string)

pub returns : goal.returns
returns c = search (over-not, over-string)
