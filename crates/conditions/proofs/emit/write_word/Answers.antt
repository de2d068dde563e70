use Rattle.conditions.proofs.EmitWays.{write-word-top, write-word-kept, write-word-above, write-word-name, write-word-true, write-word-false}
use Rattle.conditions.proofs.emit.write_word.Goals as goal

pub returns-then-sort-lt-TRUE : goal.returns-then-sort-lt-TRUE
returns-then-sort-lt-TRUE c = record { value = search write-word-top; code_after = search write-word-kept }

pub returns-then-wanted-eq-TEXT : goal.returns-then-wanted-eq-TEXT
returns-then-wanted-eq-TEXT c = record { value = search write-word-above; code_after = search write-word-name }

pub returns-then-sort-eq-TRUE : goal.returns-then-sort-eq-TRUE
returns-then-sort-eq-TRUE c = record { value = search write-word-above; code_after = search write-word-true }

pub returns : goal.returns
returns c = record { value = search write-word-above; code_after = search write-word-false }
