-- W-211, "More paper never lowers a class", of queries: each sentence of the request is one statement. `More` has their proofs. Assumes nothing.
use Rattle.std.specs.Prelude.{◌≡◌, ◌≤◌}
use mathlib.Core.List.{List, ◌∷◌, ◌++◌, map, Permᴰ as Perm}
use Rattle.record.specs.Query.{Query, Supplied}
use Rattle.keynote.specs.Answer.{readings, class_given}
use Rattle.keynote.specs.Report.{entry_bytes}
use Rattle.keynote.specs.Outcome.{answer}
use Rattle.keynote.specs.Paper.{EqualBut}
use Rattle.keynote.specs.Theorems.More.{class-added, answer-reordered, entries-reordered}

-- "adding an assertion never lowers the rank"
pub added : (q q' : Query) → EqualBut q q' → (x : Supplied) (front back : List Supplied) → q.assertions ≡ front ++ back → q'.assertions ≡ front ++ (x ∷ back)
    → class_given q ≤ class_given q'
added = class-added

-- "reordering assertions changes no rank, rounds or reached, and permutes the report's entries"
pub reordered : (q q' : Query) → EqualBut q q' → Perm q.assertions q'.assertions
    → (answer q ≡ answer q') × Perm (map entry_bytes (readings q)) (map entry_bytes (readings q'))
reordered q q' k d = (answer-reordered q q' k d, entries-reordered q q' k d)
