-- W-211, "More paper never lowers a class", of queries: each sentence of the request is one statement. `More` has their proofs. Assumes nothing.
use Rattle.std.specs.Prelude.{◌≡◌}
use Rattle.std.proofs.Common.{sym, ◌∙◌}
use mathlib.Core.List.{List, ◌∷◌, ◌++◌}
use Rattle.record.specs.Query.{Query, Supplied}
use Rattle.keynote.specs.Answer.{readings}
use Rattle.keynote.specs.Report.{report}
use Rattle.keynote.specs.Outcome.{answer}
use Rattle.keynote.specs.Paper.{EqualBut, Outside}
use Rattle.keynote.specs.Theorems.More.{report_with, report-split, report-with}
use Rattle.keynote.proofs.Theorems.More.{answer-replaced}

-- "replacing an assertion outside the reach by any text that is set aside, or whose authorizer stays outside that reach, changes only its own report
-- entry": the answers are equal, and the reports but for the entry of x, which gives way to that of y
pub replaced : (q q' : Query) → EqualBut q q' → (x y : Supplied) (front back : List Supplied)
    → q.assertions ≡ front ++ (x ∷ back) → q'.assertions ≡ front ++ (y ∷ back) → Outside q x → Outside q y
    → (answer q ≡ answer q') × ((report (readings q) ≡ report_with q front x back) × (report (readings q') ≡ report_with q front y back))
replaced q q' k x y front back e e' old new =
    (answer-replaced q q' k x y front back e e' old new, (report-split q x front back e, report-split q' y front back e' ∙ sym (report-with k front y back)))
