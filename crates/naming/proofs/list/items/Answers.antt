use borrow.Author.Rules.{rules}
use Rattle.naming.specs.Working.ListWays.{items-less, items-many, items-are}
use Rattle.naming.proofs.list.items.Goals as goal

pub returns-then-listed-before : goal.returns-then-listed-before
returns-then-listed-before c = record { value = search items-less; upper_bound = search rules }

pub returns-then-listed-before-gt-MOST_LICENSEES : goal.returns-then-listed-before-gt-MOST_LICENSEES
returns-then-listed-before-gt-MOST_LICENSEES c = record { value = search items-many; upper_bound = search rules }

pub returns : goal.returns
returns c = record { value = search items-are; upper_bound = search rules }
