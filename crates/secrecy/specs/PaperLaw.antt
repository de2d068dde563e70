-- What the two calls return and leave meets `MorePaper`. Assumes nothing.
use Rattle.std.specs.Prelude.{◌≡◌, List, ℕ, length}
use Rattle.std.proofs.Common.{sym, ap, ◌∙◌}
use Rattle.keynote.specs.Outcome.{outcome, page_after}
use Rattle.keynote.specs.declared.Outcome.{Outcome}
use Rattle.keynote.specs.Theorems.More.{page-reordered, page-replaced}
use Rattle.keynote.proofs.Theorems.More.{rank-added, outcome-reordered, outcome-replaced}
use Rattle.secrecy.specs.Paper.{MorePaper}

pub paper-is : (s s' page leaf out out' : List ℕ) (r r' : Outcome) → r ≡ outcome s (length page) → out ≡ page_after s page → r' ≡ outcome s' (length leaf) → out' ≡ page_after s' leaf
    → MorePaper s s' (record { first = r; second = r' }) out out'
paper-is s s' page leaf out out' r r' re oe re' oe' q q' e e' k h h' =
    let g : (outcome s (length page)).number ≡ 0 = ap (λ (x : Outcome). x.number) (sym re) ∙ h in
    let g' : (outcome s' (length leaf)).number ≡ 0 = ap (λ (x : Outcome). x.number) (sym re') ∙ h' in
    record {
      added = λ m. rw (re, re') (rank-added s s' q q' e e' k page leaf g g' m);
      reordered = λ d. re ∙ outcome-reordered s s' q q' e e' k page leaf g g' d ∙ sym re';
      permuted = λ x i j a b. rw (oe, oe') (page-reordered s s' q q' e e' k page leaf g g' x i j a b);
      replaced = λ x y front back a b o n. (
        re ∙ outcome-replaced s s' q q' e e' k page leaf g g' x y front back a b o n ∙ sym re',
        rw (oe, oe') (page-replaced s s' q q' e e' k page leaf g g' x y front back a b o n),
      );
    }
