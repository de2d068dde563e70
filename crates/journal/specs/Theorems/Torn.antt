-- A medium that keeps no order between two barriers: of the stores between them any may have reached it when the power fails. Two barriers within
-- an append, behind the length and behind the answer, and one within recovery, before the last two stores, are enough. Assumes nothing.
use Rattle.std.specs.Prelude.{◌≡◌, refl, List, [], ◌∷◌, ◌++◌, ℕ, zero, suc, ◌+◌, ◌-◌, ◌<◌, ◌≤◌, length, set, take, drop}
use Rattle.std.proofs.Common.{sym, ap, ◌∙◌, arith, length-set, get_or-set_other}
use Rattle.std.proofs.Math.ListN.{get_or}
use Rattle.std.proofs.Math.Seq.{take-append_seam}
use Rattle.journal.specs.Page.{least_page, closing, size_bytes, entry}
use Rattle.journal.specs.Stores.{Store, stored, placed, cleared, SomeOf, s[], made, lost}
use Rattle.journal.specs.Journal.{clearing}
use Rattle.journal.specs.Working.Walk.{end_at, rest_of}
use Rattle.journal.specs.Working.Placing.{placed-take}
use Rattle.journal.specs.Working.Requests.{rest-long, clearing-is}
use Rattle.journal.specs.Working.Kept.{kept_cut}

-- ---- what some of the stores leave

pub some-long : {p q : List ℕ} {ss : List Store} → SomeOf p ss q → length q ≡ length p
some-long s[] = refl
some-long {p} (made {s = s} w) = some-long w ∙ length-set p s.0 s.1
some-long (lost w) = some-long w

pub below : (i j : ℕ) → i < j → i ≡ j → ⊥
below i j h e = omega arith

pub above : (i j : ℕ) → j < i → i ≡ j → ⊥
above i j h e = omega arith

pub placed-before : {p q : List ℕ} (at : ℕ) (bs : List ℕ) → SomeOf p (placed at bs) q → (i : ℕ) → i < at → get_or q i 0 ≡ get_or p i 0
unfolding placed
placed-before at [] s[] i h = refl
placed-before {p} at (b ∷ bs) (made w) i h = placed-before (at + 1) bs w i (omega arith) ∙ get_or-set_other p at i b 0 (below i at h)
placed-before at (b ∷ bs) (lost w) i h = placed-before (at + 1) bs w i (omega arith)

pub placed-behind : {p q : List ℕ} (at : ℕ) (bs : List ℕ) → SomeOf p (placed at bs) q → (i : ℕ) → at + length bs ≤ i → get_or q i 0 ≡ get_or p i 0
unfolding placed
placed-behind at [] s[] i h = refl
placed-behind {p} at (b ∷ bs) (made w) i h = placed-behind (at + 1) bs w i (omega arith) ∙ get_or-set_other p at i b 0 (above i at (omega arith))
placed-behind at (b ∷ bs) (lost w) i h = placed-behind (at + 1) bs w i (omega arith)

pub zero-stored : (p : List ℕ) (i : ℕ) → get_or (set p i 0) i 0 ≡ 0
zero-stored [] i = refl
zero-stored (x ∷ p) zero = refl
zero-stored (x ∷ p) (suc i) = zero-stored p i

-- behind the stores of the operation
pub length-stores : (p a : List ℕ) → take 2 (placed (end_at p 1) (entry a)) ≡ placed (end_at p 1) (size_bytes a)
unfolding placed entry
length-stores p a = refl

pub answer-stores : (p a : List ℕ) → take (length a) (drop 2 (placed (end_at p 1) (entry a))) ≡ placed (end_at p 1 + 2) a
unfolding placed entry
answer-stores p a =
    let s : end_at p 1 + 1 + 1 ≡ end_at p 1 + 2 = omega arith in
    rw s (placed-take (length a) (end_at p 1 + 2) (a ++ (closing ∷ [])) ∙ ap (placed (end_at p 1 + 2)) (take-append_seam a (closing ∷ [])))

pub rest-clears : (p s : List ℕ) → s ≡ rest_of p → least_page ≤ length p
    → (length s ≡ length p - end_at p 1) × (clearing p s ≡ cleared (length s) (end_at p 1))
rest-clears p s e h =
    let n : length s ≡ length p - end_at p 1 = ap length e ∙ rest-long p in
    (n, rw (sym n) at (ap (clearing p) e ∙ clearing-is p h))

pub cut-stored : (p : List ℕ) (k n : ℕ) → n ≡ length p - end_at p 1 → stored p (take k (cleared n (end_at p 1))) ≡ kept_cut k p
unfolding kept_cut
cut-stored p k n e = ap (λ (m : ℕ). stored p (take k (cleared m (end_at p 1)))) e
