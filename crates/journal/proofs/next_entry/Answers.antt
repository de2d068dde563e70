use Rattle.journal.specs.Working.Ways.{behind-empty, behind-short, behind-over, behind-open, behind-closed}
use Rattle.journal.proofs.next_entry.Goals.{then-n-eq0-via-then-n-eq0, then-n-eq0-via-else-n-eq0+then-left-lt3, then-n-eq0-via-else-n-eq0+else-left-lt3+then-left-n}
use Rattle.journal.proofs.next_entry.Goals as goal

pub returns-then-n-eq0 : goal.returns-then-n-eq0
returns-then-n-eq0 c =
    elim c.then-n-eq0.branch [
      | then-n-eq0-via-then-n-eq0 w ↦ search (behind-empty, w.if-n-eq0.true)
      | then-n-eq0-via-else-n-eq0+then-left-lt3 w ↦ search (behind-short, w.if-left-lt3.true)
      | then-n-eq0-via-else-n-eq0+else-left-lt3+then-left-n w ↦ search (behind-over, w.if-left-n.true)
    ]

pub returns-then-page-at-ne-CLOSING : goal.returns-then-page-at-ne-CLOSING
returns-then-page-at-ne-CLOSING c = search behind-open

pub returns : goal.returns
returns c = search behind-closed
