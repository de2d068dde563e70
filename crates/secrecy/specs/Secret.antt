-- What the two calls return and leave meets the demand. Assumes nothing.
use Rattle.std.specs.Prelude.{◌≡◌, List, ℕ, ◌≤◌, length}
use Rattle.std.proofs.Common.{sym, ap, ◌∙◌}
use Rattle.keynote.specs.Outcome.{needed, outcome, page_after}
use Rattle.keynote.specs.Theorems.Numbers.{answered-fits}
use Rattle.keynote.specs.Theorems.Demand3.{SameAnswer, needed-same}
use Rattle.keynote.proofs.Theorems.Demand3.{demand-3}
use Rattle.keynote.specs.declared.Outcome.{Outcome}
use Rattle.secrecy.specs.Demand3.{Secret}

pub secret-is : (s s' page leaf out out' : List ℕ) (r r' : Outcome) → r ≡ outcome s (length page) → out ≡ page_after s page → r' ≡ outcome s' (length leaf) → out' ≡ page_after s' leaf
    → Secret s s' (record { first = r; second = r' }) out out'
secret-is s s' page leaf out out' r r' re oe re' oe' q q' e e' alike h h' =
    let k : needed q ≤ length page = answered-fits s q e (length page) (ap (λ (x : Outcome). x.number) (sym re) ∙ h) in
    let k' : needed q' ≤ length leaf = answered-fits s' q' e' (length leaf) (ap (λ (x : Outcome). x.number) (sym re') ∙ h') in
    let same : SameAnswer s s' page leaf (needed q) = demand-3 s s' q q' e e' alike page leaf k (rw (needed-same q q' alike) k') in
    (re ∙ same.outcomes ∙ sym re', rw (oe, oe') same.reports)
