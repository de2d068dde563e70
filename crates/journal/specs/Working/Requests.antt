-- The ways out of the functions that are called from outside. Assumes nothing.
use Rattle.std.specs.Prelude.{◌≡◌, refl, List, ℕ, ◌-◌, ◌<◌, ◌≤◌, min, ltb, take, Ok, Err}
use Rattle.std.proofs.Math.Path.{sym}
use Rattle.std.proofs.Common.{ap, ◌∙◌, arith, length-drop, take_all, ltb-true, ltb-false}
use Rattle.std.proofs.Math.ListN.{length}
use Rattle.text.specs.Choice.{split}
use Rattle.journal.specs.Page.{least_page}
use Rattle.journal.specs.Stores.{Store, stored, cleared}
use Rattle.journal.specs.Journal.{number, Verdict, granted, refused, recover_verdict, append_verdict, outcome, outcome_of, allowed, appending, clearing, Appends, Recovers, RecoverCut, Recovered}
use Rattle.journal.specs.Working.Walk.{entries, end_at, rest_of}
use Rattle.journal.specs.Working.Placing.{cleared-length}
use Rattle.journal.specs.Working.Rooms.{Room, room_of, opened, fine-facts}
use Rattle.journal.specs.Working.Ways.{at-not, at_same, end-within}
use Rattle.journal.specs.Theorems.Content.{content-walk, content-is}
use Rattle.journal.specs.declared.Outcome.{Outcome}
use Rattle.journal.specs.declared.Refusal.{Refusal}

-- the rest begins where the finished entries end
pub rest-long : (p : List ℕ) → length (rest_of p) ≡ length p - end_at p 1
unfolding rest_of
rest-long p = length-drop (end_at p 1) p

pub rest_at : (p : List ℕ) → least_page ≤ length p → length p - length (rest_of p) ≡ end_at p 1
rest_at p h = omega (arith, rest-long p, end-within p 1 (omega arith))

-- the first k of a list, k held at its length
pub take_min : (k n : ℕ) (l : List Store) → length l ≡ n → take (min k n) l ≡ take k l
take_min k n l e =
    split (ltb n k)
    (λ t. let h : n < k = ltb-true _ _ t in
    let m : min k n ≡ n = omega arith in
    (rw m (take_all n l (omega arith))) ∙ sym (take_all k l (omega arith)))
    (λ t. let h : k ≤ n = ltb-false _ _ t in let m : min k n ≡ k = omega arith in rw m refl)

-- a room that is found, and one that isn't, as verdicts
pub verdict-at : (v : Verdict) (e d : ℕ) → room_of v d ≡ Ok e → (v ≡ granted) × (e ≡ d)
verdict-at granted e d h = (refl, at_same h)
verdict-at (refused r) e d h = at-not h

not_at : {P : Type 0} {n : Refusal} {e : ℕ} → ◌≡◌ {A = Room} (Ok e) (Err n) → P
not_at h = at-not (sym h)

not_same : {m n : Refusal} → ◌≡◌ {A = Room} (Err m) (Err n) → n ≡ m
not_same h = cc

pub verdict-not : (v : Verdict) (n : Refusal) (d : ℕ) → room_of v d ≡ Err n → (outcome (number n) ≡ outcome_of v) × ((ss : List Store) (p : List ℕ) → p ≡ allowed v ss p)
verdict-not granted n d h = not_at h
verdict-not (refused r) n d h = (ap (λ k. outcome (number k)) (not_same h), λ ss p. refl)

pub clearing-is : (p : List ℕ) → least_page ≤ length p → clearing p (rest_of p) ≡ cleared (length p - end_at p 1) (end_at p 1)
unfolding clearing
clearing-is p h = rw (rest_at p h, rest-long p) refl

-- what is granted or refused by the code's walk is so by the definition
module _ (made : List Store → List Store) (p a : List ℕ) (o : Outcome) (q : List ℕ) where
  pub appends : o ≡ outcome_of (append_verdict p (rest_of p) a) → q ≡ allowed (append_verdict p (rest_of p) a) (made (appending p (rest_of p) a)) p
      → Appends made p a o q
  appends r s = record { answers = entries p; rest = rest_of p; content = content-walk p; result = r; page = s }

module _ (made : List Store → List Store) (p : List ℕ) (o : Outcome) (q : List ℕ) where
  pub recovers : o ≡ outcome_of (recover_verdict p) → q ≡ allowed (recover_verdict p) (made (clearing p (rest_of p))) p → Recovers made p o q
  recovers r s = record { answers = entries p; rest = rest_of p; content = content-walk p; result = r; page = s }

-- the whole budget makes every store
pub allowed_all : (v : Verdict) (n : ℕ) (ss : List Store) (p : List ℕ) → (v ≡ granted → length ss ≤ n) → allowed v (take n ss) p ≡ allowed v ss p
allowed_all granted n ss p h = ap (λ (l : List Store). stored p l) (take_all n ss (h refl))
allowed_all (refused r) n ss p h = refl

-- ---- recovery
module _ (budget : ℕ) (p : List ℕ) (r : Room) (re : r ≡ opened p) where
  pub recover-not : (n : Refusal) → r ≡ Err n → (k : ℕ) → k ≡ number n → (o : Outcome) → o ≡ outcome k → RecoverCut budget p o p
  unfolding opened
  recover-not n rv k ke o oe =
      let v = verdict-not (recover_verdict p) n (end_at p 1) (sym re ∙ rv) in
      recovers (take budget) p o p (oe ∙ ap outcome ke ∙ v.0) (v.1 _ p)

  module _ (e : ℕ) (rv : r ≡ Ok e) where
    pub recover-done : (count : ℕ) → count ≡ min budget (length p - e) → (m : List ℕ) → m ≡ stored p (take count (cleared (length p - e) e))
        → (o : Outcome) → o ≡ outcome 0 → RecoverCut budget p o m
    unfolding opened
    recover-done count ce m me o oe =
        let f = verdict-at (recover_verdict p) e (end_at p 1) (sym re ∙ rv) in
        let n : length (cleared (length p - e) e) ≡ length p - e = cleared-length (length p - e) e in
        let s : m ≡ stored p (take budget (clearing p (rest_of p)))
        = me ∙ (rw (ce, take_min budget (length p - e) (cleared (length p - e) e) n, f.1, sym (clearing-is p (fine-facts p f.0).least)) refl) in
        recovers (take budget) p o m (rw f.0 oe) (rw f.0 s)

pub recover-few : (count budget total : ℕ) → count ≡ min budget total → count ≤ total
recover-few count budget total h = omega arith

clearing-few : (p rest : List ℕ) → rest ≡ rest_of p → length (clearing p rest) ≤ length p
unfolding clearing
clearing-few p rest e =
    let n : length rest ≡ length (rest_of p) = ap length e in
    omega (arith, cleared-length (length rest) (length p - length rest), n, rest-long p)

pub recover-whole : (p : List ℕ) (o : Outcome) (q : List ℕ) → RecoverCut (length p) p o q → Recovered p o q
recover-whole p o q c =
    let e : c.rest ≡ rest_of p = (content-is p c.content).1 in
    record {
      answers = c.answers;
      rest = c.rest;
      content = c.content;
      result = c.result;
      page = c.page ∙ allowed_all (recover_verdict p) (length p) (clearing p c.rest) p (λ h. clearing-few p c.rest e);
    }
