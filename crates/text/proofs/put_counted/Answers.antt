use Rattle.std.proofs.Common.{rules}
use Rattle.text.specs.Working.Pairs.{counted-large, counted-past, counted-half, counted-both, counted_none}
use Rattle.text.proofs.put_counted.Goals as goal
use Rattle.text.proofs.put_counted.Goals.{then-b-gt65535-via-then-b-gt65535, then-b-gt65535-via-else-b-gt65535+then-dst-at, then-b-gt65535-via-else-b-gt65535+else-dst-at+then-dst-at-lt2}

pub returns-then-b-gt65535 : goal.returns-then-b-gt65535
returns-then-b-gt65535 c =
    elim c.then-b-gt65535.branch [
      | then-b-gt65535-via-then-b-gt65535 w ↦ search counted-large
      | then-b-gt65535-via-else-b-gt65535+then-dst-at w ↦ search counted-past
      | then-b-gt65535-via-else-b-gt65535+else-dst-at+then-dst-at-lt2 w ↦ search counted-half
    ]

pub returns-then-copy_at : goal.returns-then-copy_at
returns-then-copy_at c = search (rules, counted-both)

pub returns-else-copy_at : goal.returns-else-copy_at
returns-else-copy_at c = search (rules, counted_none)
