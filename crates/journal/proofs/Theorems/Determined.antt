-- Appending and recovery have one outcome and leave one page, for every page and every answer. Assumes nothing.
use Rattle.std.specs.Prelude.{◌≡◌, List, ℕ}
use Rattle.journal.specs.Page.{entry}
use Rattle.journal.specs.Stores.{Store, stored, placed}
use Rattle.journal.specs.Journal.{granted, append_verdict, outcome, outcome_of, allowed, appending, Appends}
use Rattle.journal.specs.Working.Walk.{end_at, rest_of}
use Rattle.journal.specs.Working.Rooms.{Roomy, roomy-facts, done-granted}
use Rattle.journal.proofs.Working.Requests.{appending-is}
use Rattle.journal.specs.Theorems.Content.{content-is}

-- ---- which is, in places

module _ (made : List Store → List Store) (p a q : List ℕ) where
  appended-in : (rest : List ℕ) → rest ≡ rest_of p → outcome 0 ≡ outcome_of (append_verdict p rest a)
      → q ≡ allowed (append_verdict p rest a) (made (appending p rest a)) p → Roomy p a × (q ≡ stored p (made (placed (end_at p 1) (entry a))))
  appended-in rest e r s =
      let t : outcome 0 ≡ outcome_of (append_verdict p (rest_of p) a) = rw e at r in
      let v : append_verdict p (rest_of p) a ≡ granted = done-granted (append_verdict p (rest_of p) a) t in
      let u : q ≡ allowed (append_verdict p (rest_of p) a) (made (appending p (rest_of p) a)) p = rw e at s in
      let g : Roomy p a = roomy-facts p a v in
      let w : q ≡ stored p (made (appending p (rest_of p) a)) = rw v at u in
      (g, rw (appending-is p a g.fine.least) at w)

  pub appended-page : Appends made p a (outcome 0) q → Roomy p a × (q ≡ stored p (made (placed (end_at p 1) (entry a))))
  appended-page c = appended-in c.rest (content-is p c.content).1 c.result c.page
