use Rattle.journal.specs.Working.Ways.{end-small, end-large, end-foreign, end-found}
use Rattle.journal.proofs.page_end.Goals as goal

pub returns-then-size-lt-LEAST_PAGE : goal.returns-then-size-lt-LEAST_PAGE
returns-then-size-lt-LEAST_PAGE c = search end-small

pub returns-then-size-gt-MOST_PAGE : goal.returns-then-size-gt-MOST_PAGE
returns-then-size-gt-MOST_PAGE c = search end-large

pub returns-then-page-ne-VERSION : goal.returns-then-page-ne-VERSION
returns-then-page-ne-VERSION c = search end-foreign

pub returns : goal.returns
returns c = search end-found
