-- The promises about a power cut, of the very relations that the contracts of the code state. Assumes nothing.
use Rattle.std.specs.Prelude.{◌≡◌, refl, true, ℕ, suc, ◌-◌, ◌<◌, ◌≤◌, ltb, get_or}
use Rattle.std.proofs.Math.Path.{sym}
use Rattle.std.proofs.Common.{◌∙◌, arith, eq-eqb, ne_eqb}
use mathlib.Core.List.{List, [], ◌∷◌}
use Rattle.std.proofs.Math.ListN.{length}
use Rattle.text.specs.Choice.{pick, split}
use Rattle.text.specs.All.{all}
use Rattle.journal.specs.Page.{zeros, entry}
use Rattle.journal.specs.Stores.{Store, stored, cleared}
use Rattle.journal.specs.Journal.{Verdict, granted, refused, recover_verdict, append_verdict, outcome, outcome_of, allowed, Recovers, AppendCut, RecoverCut, Recovered}
use Rattle.journal.specs.Working.Walk.{end_at}
use Rattle.journal.specs.Working.Walks.{walk-le}
use Rattle.journal.specs.Working.Rooms.{Fine, fine-granted, fine-further, not-granted, done-granted}
use Rattle.journal.specs.Working.Agreeing.{front}
use Rattle.journal.specs.Working.Kept.{kept}
use Rattle.journal.specs.Theorems.Determined.{Went, went_on, went-not, recovered-page}
use Rattle.journal.specs.declared.Outcome.{Outcome}

-- ---- pages that are fine

-- a page with the length and the first byte of one that is fine
pub fine-too : (p q : List ℕ) → Fine p → length q ≡ length p → get_or q 0 0 ≡ get_or p 0 0 → Fine q
fine-too p q f l v = record { least = omega (arith, l, f.least); most = omega (arith, l, f.most); versioned = v ∙ f.versioned }

pub end_after : (p : List ℕ) → 0 < end_at p 1
end_after p = omega (arith, walk-le (front p))

pub one : (p : List ℕ) → Fine p → 1 ≤ length p
one p f = omega (arith, f.least)

-- recovery of a page that is fine leaves what is kept
pub fine-recovered : (p : List ℕ) {r : Outcome} {x : List ℕ} → Fine p → Recovered p r x → (r ≡ outcome 0) × (x ≡ kept p)
unfolding kept
fine-recovered p {r} {x} f c = of (recovered-page (λ ss. ss) p r x c)
  where
    of : Went (λ ss. ss) p r x → (r ≡ outcome 0) × (x ≡ stored p (cleared (length p - end_at p 1) (end_at p 1)))
    of (went_on g o e) = (o, e)
    of (went-not n v o e) = not-granted (sym v ∙ fine-granted p f)

pub recovered-fine : (made : List Store → List Store) (p q : List ℕ) → Recovers made p (outcome 0) q → Fine p
recovered-fine made p q c = of (recovered-page made p (outcome 0) q c)
  where
    of : Went made p (outcome 0) q → Fine p
    of (went_on f z same) = f
    of (went-not n v z same) = not-granted (done-granted (refused n) z)

pub zeros-all : (s : List ℕ) → ((i : ℕ) → get_or s i 0 ≡ 0) → zeros s ≡ true
unfolding zeros all
zeros-all [] h = refl
zeros-all (b ∷ s) h = rw (eq-eqb b 0 (h 0)) (zeros-all s (λ i. h (suc i)))

-- ---- room, and refusals

pub clean-verdict : (q a t : List ℕ) → Fine q → 0 < length a → zeros t ≡ true
    → outcome_of (append_verdict q t a) ≡ pick (ltb (length t) (length (entry a))) (outcome 9) (outcome 0)
unfolding append_verdict
clean-verdict q a t f some z =
    let n : length a ≡ 0 → ⊥ = λ e. omega arith in
    rw (ne_eqb (length a) 0 n, fine-further q f, z) (split (ltb (length t) (length (entry a))) (λ b. rw b refl) (λ b. rw b refl))

-- a refusal stores nothing
refused-page : (v : Verdict) (o : Outcome) (ss : List Store) (p q : List ℕ) → o ≡ outcome_of v → (o ≡ outcome 0 → ⊥) → q ≡ allowed v ss p → q ≡ p
refused-page granted o ss p q r n e = absurd (n r)
refused-page (refused c) o ss p q r n e = e

pub append-refused : (k : ℕ) {p a q : List ℕ} {r : Outcome} → AppendCut k p a r q → (r ≡ outcome 0 → ⊥) → q ≡ p
append-refused k {p} {a} {q} {r} c n = refused-page (append_verdict p c.rest a) r _ p q c.result n c.page

pub recover-refused : (k : ℕ) {p q : List ℕ} {r : Outcome} → RecoverCut k p r q → (r ≡ outcome 0 → ⊥) → q ≡ p
recover-refused k {p} {q} {r} c n = refused-page (recover_verdict p) r _ p q c.result n c.page

-- ---- a cut within appending

-- what recovery makes of a page p that k stores of appending a to it have reached, where w is the page with the whole entry
pub record AfterCut (k : ℕ) (p a w x : List ℕ) : Type 0 where
  -- before the last store recovery gives the page before
  pub undone : k < length (entry a) → x ≡ p
  -- from it on recovery gives the page with the entry
  pub finished : length (entry a) ≤ k → x ≡ w
