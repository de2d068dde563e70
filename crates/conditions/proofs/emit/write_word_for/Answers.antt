use Rattle.conditions.proofs.EmitWays.{write-word-top, write-word-kept, write-word-needed}
use borrow.Author.Rules.{rules}
use Rattle.conditions.proofs.emit.write_word_for.Goals as goal

pub returns-then-sort-lt-TRUE : goal.returns-then-sort-lt-TRUE
returns-then-sort-lt-TRUE c = record { value = search write-word-top; code_after = search write-word-kept }

pub returns : goal.returns
returns c = record { value = search rules; code_after = search write-word-needed }
