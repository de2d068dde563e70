-- Appending and recovery have one outcome and leave one page, for every page and every answer. Assumes nothing.
use Rattle.std.specs.Prelude.{◌≡◌, refl, List, ℕ, ◌-◌, length}
use Rattle.std.proofs.Common.{sym, ◌∙◌}
use Rattle.std.proofs.Math.Path.{ap}
use Rattle.journal.specs.Stores.{Store, stored, cleared}
use Rattle.journal.specs.Journal.{granted, refused, number, recover_verdict, append_verdict, outcome, outcome_of, allowed, appending, clearing, Appends, Recovers}
use Rattle.journal.specs.declared.Refusal.{Refusal}
use Rattle.journal.specs.Working.Walk.{end_at, rest_of}
use Rattle.journal.specs.Working.Rooms.{Fine, Judged, is-fine, is-not, judged}
use Rattle.journal.specs.Working.Requests.{appends, recovers, clearing-is}
use Rattle.journal.specs.Theorems.Content.{content-only, content-is}
use Rattle.journal.specs.declared.Outcome.{Outcome}

-- ---- there is one

pub record Some (P : Outcome → List ℕ → Type 0) : Type 0 where
  pub result : Outcome
  pub page : List ℕ
  pub holds : P result page

pub append-some : (made : List Store → List Store) (p a : List ℕ) → Some (Appends made p a)
append-some made p a =
    record {
      result = outcome_of (append_verdict p (rest_of p) a);
      page = allowed (append_verdict p (rest_of p) a) (made (appending p (rest_of p) a)) p;
      holds = appends made p a _ _ refl refl;
    }

pub recover-some : (made : List Store → List Store) (p : List ℕ) → Some (Recovers made p)
recover-some made p =
    record {
      result = outcome_of (recover_verdict p);
      page = allowed (recover_verdict p) (made (clearing p (rest_of p))) p;
      holds = recovers made p _ _ refl refl;
    }

-- ---- and only one

module _ (made : List Store → List Store) {p a q x : List ℕ} {o r : Outcome} where
  pub append-only : Appends made p a o q → Appends made p a r x → (o ≡ r) × (q ≡ x)
  append-only c d =
      let e : c.rest ≡ d.rest = (content-only c.content d.content).1 in (
        c.result ∙ ap (λ (s : List ℕ). outcome_of (append_verdict p s a)) e ∙ sym d.result,
        c.page ∙ ap (λ (s : List ℕ). allowed (append_verdict p s a) (made (appending p s a)) p) e ∙ sym d.page,
      )

module _ (made : List Store → List Store) {p q x : List ℕ} {o r : Outcome} where
  pub recover-only : Recovers made p o q → Recovers made p r x → (o ≡ r) × (q ≡ x)
  recover-only c d =
      let e : c.rest ≡ d.rest = (content-only c.content d.content).1 in (
        c.result ∙ sym d.result,
        c.page ∙ ap (λ (s : List ℕ). allowed (recover_verdict p) (made (clearing p s)) p) e ∙ sym d.page,
      )

-- recovery is granted, or it is refused and leaves the page
pub data Went (made : List Store → List Store) (p : List ℕ) (o : Outcome) (q : List ℕ) : Type 0 where
  went_on : Fine p → o ≡ outcome 0 → q ≡ stored p (made (cleared (length p - end_at p 1) (end_at p 1))) → Went made p o q
  went-not : (r : Refusal) → recover_verdict p ≡ refused r → o ≡ outcome (number r) → q ≡ p → Went made p o q

module _ (made : List Store → List Store) (p : List ℕ) (o : Outcome) (q : List ℕ) where
  recovered-in : (rest : List ℕ) → rest ≡ rest_of p → o ≡ outcome_of (recover_verdict p) → q ≡ allowed (recover_verdict p) (made (clearing p rest)) p
      → Judged p → Went made p o q
  unfolding recover_verdict
  recovered-in rest e r s (is-fine f v) =
      let u : q ≡ stored p (made (clearing p rest)) = rw (v granted) at s in
      let w : q ≡ stored p (made (clearing p (rest_of p))) = rw e at u in
      went_on f (r ∙ ap outcome_of (v granted)) (rw (clearing-is p f.least) at w)
  recovered-in rest e r s (is-not n v) = went-not n (v granted) (r ∙ ap outcome_of (v granted)) (s ∙ (rw (v granted) refl))

  pub recovered-page : Recovers made p o q → Went made p o q
  recovered-page c = recovered-in c.rest (content-is p c.content).1 c.result c.page (judged p)
