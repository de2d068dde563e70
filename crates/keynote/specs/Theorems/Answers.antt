-- What `lampsickle_answer` gives and leaves is the outcome and the page of the definition. Assumes nothing.
use Rattle.std.specs.Prelude.{◌≡◌, refl, List, ℕ, ◌+◌, ◌*◌, ◌<◌, ◌≤◌, ltb, replicate}
use Rattle.std.proofs.Math.Path.{sym, ap}
use Rattle.std.proofs.Common.{◌∙◌, arith}
use Rattle.std.proofs.Math.ListN.{length}
use Rattle.std.proofs.lemmas.List.{length-replicate}
use borrow.Author.Tests.{ltb-true, ltb-false}
use Rattle.limits.specs.Limits.{most_items}
use Rattle.text.specs.Choice.{pick, split}
use Rattle.record.specs.Query.{Query}
use Rattle.record.specs.Read.{accepted, refused}
use Rattle.record.specs.Record.{read_record}
use Rattle.record.specs.Reading.{Reading, Accepted, told, read_into}
use Rattle.record.specs.RoundTrip.{Bytes}
use Rattle.record.specs.Refusal.{Refused}
use Rattle.system.specs.Working.Solving.{solved_in}
use Rattle.keynote.specs.Outcome.{refused_with, answer, needed, outcome, page_after}
use Rattle.keynote.specs.Report.{report_size}
use Rattle.keynote.specs.Working.Answering.{Given, given_by, on_solved, answered_in}
use Rattle.keynote.specs.Theorems.Answered.{outcome-refused, page-refused, outcome-small, page-small, outcome-answered, page-answered}
use Rattle.keynote.specs.Theorems.Parts.{Parts, places-length, accepted-query, accepted-parts, refused-record}
use Rattle.keynote.specs.Working.Filled.{values_at, requesters_at, attributes_at, assertions_at, solved_as}
use Rattle.keynote.specs.Working.Solved.{solved-is}
use Rattle.keynote.specs.declared.Outcome.{Outcome}

-- the outcome and the page of the definition
abbrev pub Meant : List ℕ → List ℕ → Outcome → List ℕ → Type 0
Meant s page r out = (r ≡ outcome s (length page)) × (out ≡ page_after s page)

-- a record that is refused
pub answer-refused : (s t table page : List ℕ) (m : Reading) (n p : ℕ) → told m table ≡ read_into s t → m ≡ Refused n p → (r : Outcome) → r ≡ refused_with n p → Meant s page r page
answer-refused s t table page m n p e k r re =
    let w : read_record s ≡ refused n p = (refused-record s t table n p (ap (λ (x : Reading). told x table) (sym k) ∙ e)).0 in
    (re ∙ sym (outcome-refused s n p w (length page)), sym (page-refused s n p w page))

-- a query that is accepted
module _ (s : List ℕ) (bytes : Bytes s) (q : Query) (acc : read_record s ≡ accepted q) (page : List ℕ) where
  abbrev parted : Given
  parted =
      pick (ltb (length page) (3 + 3 * length (assertions_at q))) (given_by (refused_with 9 0) page)
      (on_solved (solved_in s (values_at q) (requesters_at q) (attributes_at q) (assertions_at q) page))

  long : 3 + 3 * length (assertions_at q) ≡ needed q
  unfolding needed report_size
  long = ap (λ (n : ℕ). 3 + 3 * n) (places-length _ _ _ q.assertions)

  parted-is : (r : Outcome) (out : List ℕ) → given_by r out ≡ parted → Meant s page r out
  unfolding answer
  parted-is r out e =
      let f : given_by r out ≡ pick (ltb (length page) (needed q)) (given_by (refused_with 9 0) page) (on_solved (solved_in s (values_at q) (requesters_at q) (attributes_at q) (assertions_at q) page))
      = e ∙ rw long in
      split (ltb (length page) (needed q))
      (λ h. let k : length page < needed q = ltb-true _ _ h in
      let g : given_by r out ≡ given_by (refused_with 9 0) page = rw h at f in
      let a : r ≡ refused_with 9 0 = cc in
      let b : out ≡ page = cc in
      (a ∙ sym (outcome-small s q acc (length page) k), b ∙ sym (page-small s q acc page k)))
      (λ h. let k : needed q ≤ length page = ltb-false _ _ h in
      let g : given_by r out ≡ on_solved (solved_in s (values_at q) (requesters_at q) (attributes_at q) (assertions_at q) page) = rw h at f in
      let i : given_by r out ≡ on_solved (solved_as q page) = g ∙ ap on_solved (solved-is s q bytes acc page k) in
      (let a : r ≡ answer q = cc in a ∙ sym (outcome-answered s q acc (length page) k), let b : out ≡ _ = cc in b ∙ sym (page-answered s q acc page k)))

pub answer-accepted : (s t table page : List ℕ) (m : Reading) (v n a c : ℕ) → Bytes s → most_items ≤ length t → told m table ≡ read_into s t → m ≡ Accepted v n a c
    → (r : Outcome) (out : List ℕ) → given_by r out ≡ answered_in s table v n a c page → Meant s page r out
unfolding answered_in
answer-accepted s t table page m v n a c bytes h e k r out g =
    let f : told (Accepted v n a c) table ≡ read_into s t = ap (λ (x : Reading). told x table) (sym k) ∙ e in
    let (q, acc) = accepted-query s t table v n a c f in
    let ps : Parts q t table v n a c = accepted-parts s q bytes acc t table h v n a c f in
    parted-is s bytes q acc page r out (g ∙ rw (ps.values_part, ps.requesters_part, ps.attributes_part, ps.assertions_part))

-- the same for the function's four ways out, from an empty table
module _ (s table : List ℕ) (m : Reading) (e : told m table ≡ read_into s (replicate most_items 0)) where
  module _ (page : List ℕ) (n p : ℕ) (k : m ≡ Refused n p) where
    pub refused-outcome : (r : Outcome) → r ≡ refused_with n p → r ≡ outcome s (length page)
    refused-outcome r re = (answer-refused s (replicate most_items 0) table page m n p e k r re).0

    pub refused-page : page ≡ page_after s page
    refused-page = (answer-refused s (replicate most_items 0) table page m n p e k (refused_with n p) refl).1

  module _ (bytes : Bytes s) (v n a c : ℕ) (k : m ≡ Accepted v n a c) where
    h : length (replicate {A = ℕ} most_items 0) ≡ most_items
    h = length-replicate {A = ℕ} most_items 0

    pub accepted-table : most_items ≡ length table
    accepted-table =
        let f : told (Accepted v n a c) table ≡ read_into s (replicate most_items 0) = ap (λ (x : Reading). told x table) (sym k) ∙ e in
        let (q, acc) = accepted-query s (replicate most_items 0) table v n a c f in
        let ps : Parts q (replicate most_items 0) table v n a c = accepted-parts s q bytes acc (replicate most_items 0) table (omega (arith, h)) v n a c f in
        sym (ps.long ∙ h)

    module _ (page : List ℕ) (r : Outcome) (out : List ℕ) (g : given_by r out ≡ answered_in s table v n a c page) where
      pub accepted-outcome : r ≡ outcome s (length page)
      accepted-outcome = (answer-accepted s (replicate most_items 0) table page m v n a c bytes (omega (arith, h)) e k r out g).0

      pub accepted-page : out ≡ page_after s page
      accepted-page = (answer-accepted s (replicate most_items 0) table page m v n a c bytes (omega (arith, h)) e k r out g).1
