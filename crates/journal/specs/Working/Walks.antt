-- The walk over a page's entries as a relation, and that there is one only. Assumes nothing.
use Rattle.std.specs.Prelude.{◌≡◌, refl, true, false, List, [], ◌∷◌, ◌++◌, ℕ, zero, suc, ◌+◌, ◌-◌, ◌<◌, ◌≤◌, eqb, ltb, leb, length, get_or}
use Rattle.std.proofs.Common.{arith, ltb-true, leb-true, eqb-true, lt-ltb, le-leb, eq-eqb}
use Rattle.text.specs.Choice.{split, clash}
use Rattle.text.specs.Counted.{part, pair_at}
use Rattle.journal.specs.Working.Walk.{behind, finished_at, entries_in, end_in}

-- what a finished entry is, in three facts
pub record Finished (p : List ℕ) (at : ℕ) : Type 0 where
  pub above : 0 < pair_at p at
  pub within : at + pair_at p at + 3 ≤ length p
  pub closed : get_or p (at + pair_at p at + 2) 0 ≡ 1

pub finished-facts : (p : List ℕ) (at : ℕ) → finished_at p at ≡ true → Finished p at
unfolding finished_at behind
finished-facts p at h =
    split (ltb 0 (pair_at p at))
    (λ e. split (leb (at + pair_at p at + 3) (length p))
    (λ f. split (eqb (get_or p (at + pair_at p at + 2) 0) 1)
    (λ g. record { above = ltb-true _ _ e; within = leb-true _ _ f; closed = eqb-true _ _ g })
    (λ g. clash h (rw (e, f) g)))
    (λ f. clash h (rw (e, f) refl)))
    (λ e. clash h (rw e refl))

pub facts-finished : (p : List ℕ) (at : ℕ) → Finished p at → finished_at p at ≡ true
unfolding finished_at behind
facts-finished p at f = simp (lt-ltb _ _ f.above, le-leb _ _ f.within, eq-eqb _ _ f.closed)

pub unfinished : (p : List ℕ) (at : ℕ) → (Finished p at → ⊥) → finished_at p at ≡ false
unfinished p at n = split (finished_at p at) (λ e. absurd (n (finished-facts p at e))) (λ e. e)

-- a walk from a place past finished entries to another
pub data Walk (p : List ℕ) : ℕ → List (List ℕ) → ℕ → Type 0 where
  w[] : {at : ℕ} → Walk p at [] at
  w∷ : {at e : ℕ} {x : List ℕ} {l : List (List ℕ)} → Finished p at → part p (at + 2) (pair_at p at) ≡ x → Walk p (at + pair_at p at + 3) l e
      → Walk p at (x ∷ l) e

pub walk-le : {p : List ℕ} {at e : ℕ} {l : List (List ℕ)} → Walk p at l e → at ≤ e
walk-le w[] = omega arith
walk-le (w∷ f x w) = omega (arith, walk-le w)

pub walk-within : {p : List ℕ} {at e : ℕ} {l : List (List ℕ)} → Walk p at l e → at ≤ length p → e ≤ length p
walk-within w[] h = h
walk-within (w∷ f x w) h = walk-within w f.within

pub walk-append : {p : List ℕ} {at e g : ℕ} {l k : List (List ℕ)} → Walk p at l e → Walk p e k g → Walk p at (l ++ k) g
walk-append w[] v = v
walk-append (w∷ f x w) v = w∷ f x (walk-append w v)

-- the definitions take a walk, and stop where no finished entry stands
pub walk-in : (n : ℕ) (p : List ℕ) (at : ℕ) → Walk p at (entries_in n p at) (end_in n p at)
unfolding entries_in end_in behind
walk-in zero p at = w[]
walk-in (suc n) p at =
    split (finished_at p at) (λ e. rw e (w∷ (finished-facts p at e) refl (walk-in n p (at + pair_at p at + 3)))) (λ e. rw e w[])

pub stops-in : (n : ℕ) (p : List ℕ) (at : ℕ) → length p - at ≤ n → finished_at p (end_in n p at) ≡ false
unfolding end_in behind
stops-in zero p at h = unfinished p at (λ f. let w : at + pair_at p at + 3 ≤ length p = f.within in let no : ⊥ = omega arith in no)
stops-in (suc n) p at h =
    split (finished_at p at)
    (λ e. let w : at + pair_at p at + 3 ≤ length p = (finished-facts p at e).within in rw e (stops-in n p (at + pair_at p at + 3) (omega arith)))
    (λ e. rw e e)

-- any walk to a place where no finished entry stands is the definitions' walk
pub walk_is : {p : List ℕ} {at e : ℕ} {l : List (List ℕ)} → Walk p at l e → finished_at p e ≡ false → (n : ℕ) → length p - at ≤ n
    → (entries_in n p at ≡ l) × (end_in n p at ≡ e)
unfolding entries_in end_in behind
walk_is w[] s zero h = (refl, refl)
walk_is w[] s (suc n) h = rw s (refl, refl)
walk_is {p} {at} (w∷ f x w) s zero h = let b : at + pair_at p at + 3 ≤ length p = f.within in let no : ⊥ = omega arith in absurd no
walk_is {p} {at} (w∷ f x w) s (suc n) h =
    let b : at + pair_at p at + 3 ≤ length p = f.within in
    let i = walk_is w s n (omega arith) in
    rw (facts-finished p at f, x, i.0, i.1) (refl, refl)
