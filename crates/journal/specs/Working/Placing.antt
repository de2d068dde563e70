-- What stores do to a page, place by place. Assumes nothing.
use Rattle.std.specs.Prelude.{◌≡◌, refl, List, [], ◌∷◌, ◌++◌, ℕ, zero, suc, ◌+◌, ◌-◌, ◌<◌, ◌≤◌, length, get_or, set, take}
use Rattle.std.proofs.Common.{sym, ap, ◌∙◌, arith, not-suc-le-zero, le_of_suc-le-suc, add-one, length-set, take-suc, get_or-set_same, get_or-set_other}
use Rattle.journal.specs.Stores.{Store, stored, placed, cleared}

pub stored-append : (p : List ℕ) (ss ts : List Store) → stored p (ss ++ ts) ≡ stored (stored p ss) ts
unfolding stored
stored-append p [] ts = refl
stored-append p (s ∷ ss) ts = stored-append (set p s.0 s.1) ss ts

pub stored-length : (p : List ℕ) (ss : List Store) → length (stored p ss) ≡ length p
unfolding stored
stored-length p [] = refl
stored-length p (s ∷ ss) = stored-length (set p s.0 s.1) ss ∙ length-set p s.0 s.1

pub stored-none : (p : List ℕ) (ss : List Store) → p ≡ stored p (take 0 ss)
unfolding stored
stored-none p ss = refl

-- one store more
pub stored_next : (p : List ℕ) (ss : List Store) (j i b : ℕ) → j < length ss → get_or ss j (0, 0) ≡ (i, b)
    → set (stored p (take j ss)) i b ≡ stored p (take (j + 1) ss)
unfolding stored
stored_next p ss j i b h e =
    rw (add-one j, take-suc ss j (0, 0) h, stored-append p (take j ss) (get_or ss j (0, 0) ∷ []), e) refl

pub placed-length : (at : ℕ) (bs : List ℕ) → length (placed at bs) ≡ length bs
unfolding placed
placed-length at [] = refl
placed-length at (b ∷ bs) = ap suc (placed-length (at + 1) bs)

pub placed-take : (k at : ℕ) (bs : List ℕ) → take k (placed at bs) ≡ placed at (take k bs)
unfolding placed
placed-take zero at bs = refl
placed-take (suc k) at [] = refl
placed-take (suc k) at (b ∷ bs) = ap {B = List Store} (λ r. (at, b) ∷ r) (placed-take k (at + 1) bs)

shift : (at j : ℕ) → at + 1 + j ≡ at + suc j
shift at j = omega arith

plus-zero : (at : ℕ) → at ≡ at + zero
plus-zero at = omega arith

pub placed-append : (at : ℕ) (bs cs : List ℕ) → placed at (bs ++ cs) ≡ placed at bs ++ placed (at + length bs) cs
unfolding placed
placed-append at [] cs = ap (λ (i : ℕ). placed i cs) (plus-zero at)
placed-append at (b ∷ bs) cs =
    let s : at + 1 + length bs ≡ at + suc (length bs) = shift at (length bs) in
    ap {B = List Store} (λ r. (at, b) ∷ r) (placed-append (at + 1) bs cs ∙ ap (λ (i : ℕ). placed (at + 1) bs ++ placed i cs) s)

pub placed_at : (at : ℕ) (bs : List ℕ) (j : ℕ) → j < length bs → get_or (placed at bs) j (0, 0) ≡ (at + j, get_or bs j 0)
unfolding placed
placed_at at [] j h = absurd (not-suc-le-zero h)
placed_at at (b ∷ bs) zero h = ap (λ (i : ℕ). (i, b)) (plus-zero at)
placed_at at (b ∷ bs) (suc j) h = placed_at (at + 1) bs j (le_of_suc-le-suc h) ∙ ap (λ (i : ℕ). (i, get_or bs j 0)) (shift at j)

apart : (i j : ℕ) → i < j → i ≡ j → ⊥
apart i j h e = omega arith

apart' : (i j : ℕ) → i < j → j ≡ i → ⊥
apart' i j h e = omega arith

pub placed-low : (p : List ℕ) (at : ℕ) (bs : List ℕ) (i : ℕ) → i < at → get_or (stored p (placed at bs)) i 0 ≡ get_or p i 0
unfolding stored placed
placed-low p at [] i h = refl
placed-low p at (b ∷ bs) i h = placed-low (set p at b) (at + 1) bs i (omega arith) ∙ get_or-set_other p at i b 0 (apart i at h)

pub placed-in : (p : List ℕ) (at : ℕ) (bs : List ℕ) (j : ℕ) → j < length bs → at + length bs ≤ length p
    → get_or (stored p (placed at bs)) (at + j) 0 ≡ get_or bs j 0
unfolding stored placed
placed-in p at [] j h k = absurd (not-suc-le-zero h)
placed-in p at (b ∷ bs) zero h k =
    rw (sym (plus-zero at)) (placed-low (set p at b) (at + 1) bs at (omega arith) ∙ get_or-set_same p at b 0 (omega arith))
placed-in p at (b ∷ bs) (suc j) h k =
    let l : at + 1 + length bs ≤ length (set p at b) = rw (length-set p at b) (omega arith) in
    rw (sym (shift at j)) (placed-in (set p at b) (at + 1) bs j (le_of_suc-le-suc h) l)

pub placed-high : (p : List ℕ) (at : ℕ) (bs : List ℕ) (i : ℕ) → at + length bs ≤ i → get_or (stored p (placed at bs)) i 0 ≡ get_or p i 0
unfolding stored placed
placed-high p at [] i h = refl
placed-high p at (b ∷ bs) i h =
    placed-high (set p at b) (at + 1) bs i (omega arith) ∙ get_or-set_other p at i b 0 (apart' at i (omega arith))

pub cleared-length : (n at : ℕ) → length (cleared n at) ≡ n
unfolding cleared
cleared-length zero at = refl
cleared-length (suc n) at = ap suc (cleared-length n _)

pub cleared_at : (n at j : ℕ) → j < n → get_or (cleared n at) j (0, 0) ≡ (at + n - 1 - j, 0)
unfolding cleared
cleared_at zero at j h = absurd (not-suc-le-zero h)
cleared_at (suc n) at zero h = ap (λ (i : ℕ). (i, 0)) (omega arith)
cleared_at (suc n) at (suc j) h = cleared_at n at j (le_of_suc-le-suc h) ∙ ap (λ (i : ℕ). (i, 0)) (omega arith)

pub cleared-high : (p : List ℕ) (k n at i : ℕ) → at + n ≤ i → get_or (stored p (take k (cleared n at))) i 0 ≡ get_or p i 0
unfolding stored cleared
cleared-high p zero n at i h = refl
cleared-high p (suc k) zero at i h = refl
cleared-high p (suc k) (suc n) at i h =
    cleared-high (set p (at + n) 0) k n at i (omega arith) ∙ get_or-set_other p (at + n) i 0 0 (apart' (at + n) i (omega arith))

pub cleared-low : (p : List ℕ) (k n at i : ℕ) → i < at + n - k → get_or (stored p (take k (cleared n at))) i 0 ≡ get_or p i 0
unfolding stored cleared
cleared-low p zero n at i h = refl
cleared-low p (suc k) zero at i h = refl
cleared-low p (suc k) (suc n) at i h =
    cleared-low (set p (at + n) 0) k n at i (omega arith) ∙ get_or-set_other p (at + n) i 0 0 (apart i (at + n) (omega arith))
