-- The K-th highest says what it should, and is monotone. Assumes nothing.
use Rattle.std.specs.Prelude.{◌≡◌, refl, ◌↔◌, leb, length}
use mathlib.Core.List.Memᴰ.{head as here}
use mathlib.Core.List.Memᴰ.{tail as there}
use mathlib.Core.List.{List, [], ◌∷◌, map, Memᴰ as Mem}
use Prim.Native.Nat.{ℕ, zero, suc, ◌+◌, ◌≤◌, ◌<◌, zero-le}
use Rattle.std.proofs.Common.{arith}
use borrow.Author.Tests.{leb-true, leb-false, le-leb}
use Rattle.text.specs.Choice.{split}
use Rattle.compliance.specs.Highest.{highest, at_least}

-- v is at most the K-th highest exactly when at least K of them are v or more
pub highest-count : (k v : ℕ) (xs : List ℕ) → 0 < v → v ≤ highest (suc k) xs → suc k ≤ at_least v xs
unfolding highest at_least
highest-count k v [] p h = omega arith
highest-count zero v (x ∷ xs) p h = split (leb v x)
    (λ e. rw e (omega arith))
    (λ e. rw e (omega (arith, highest-count zero v xs p (omega (arith, leb-false)))))
highest-count (suc k) v (x ∷ xs) p h = split (leb v x)
    (λ e. rw e (split (leb v (highest (suc k) xs))
    (λ e'. omega (arith, highest-count k v xs p (leb-true v _ e')))
    (λ e'. omega (arith, highest-count (suc k) v xs p (omega (arith, leb-false))))))
    (λ e. rw e (omega (arith, highest-count (suc k) v xs p (omega (arith, leb-false)))))

pub count-highest : (k v : ℕ) (xs : List ℕ) → suc k ≤ at_least v xs → v ≤ highest (suc k) xs
unfolding highest at_least
count-highest k v [] h = omega arith
count-highest zero v (x ∷ xs) h = split (leb v x)
    (λ e. omega (arith, leb-true))
    (λ e. let h' : 1 ≤ 0 + at_least v xs = rw e at h in omega (arith, count-highest zero v xs (omega arith)))
count-highest (suc k) v (x ∷ xs) h = split (leb v x)
    (λ e. let h' : suc (suc k) ≤ 1 + at_least v xs = rw e at h in omega (arith, leb-true, count-highest k v xs (omega arith)))
    (λ e. let h' : suc (suc k) ≤ 0 + at_least v xs = rw e at h in omega (arith, count-highest (suc k) v xs (omega arith)))

at_least-zero : (xs : List ℕ) → at_least 0 xs ≡ length xs
unfolding at_least
at_least-zero [] = refl
at_least-zero (x ∷ xs) = rw (le-leb 0 x zero-le) (omega (arith, at_least-zero xs))

-- both at once, of a list that has K
pub highest-means : (k v : ℕ) (xs : List ℕ) → suc k ≤ length xs → (v ≤ highest (suc k) xs) ↔ (suc k ≤ at_least v xs)
highest-means k zero xs h = (λ l. omega (arith, at_least-zero xs), count-highest k 0 xs)
highest-means k (suc v) xs h = (highest-count k (suc v) xs (omega arith), count-highest k (suc v) xs)

module _ {A : Type 0} (v : ℕ) (r r' : A → ℕ) where
  count-lift : (ps : List A) → ((p : A) → Mem p ps → v ≤ r p → v ≤ r' p) → at_least v (map r ps) ≤ at_least v (map r' ps)
  unfolding at_least
  count-lift [] h = zero-le
  count-lift (p ∷ ps) h =
      let ih = count-lift ps (λ q m. h q (there m)) in
      split (leb v (r p))
      (λ e. rw (e, le-leb v (r' p) (h p (here refl) (leb-true v (r p) e))) (omega arith))
      (λ e. rw e (omega arith))

  -- each threshold v by itself: where what is v or more stays so, so does the K-th highest
  pub highest-lift : (k : ℕ) (ps : List A) → ((p : A) → Mem p ps → v ≤ r p → v ≤ r' p) → v ≤ highest k (map r ps) → v ≤ highest k (map r' ps)
  unfolding highest
  highest-lift zero ps h l = l
  highest-lift (suc k) ps h l = split (leb 1 v)
      (λ e. count-highest k v (map r' ps) (omega (arith, count-lift ps h, highest-count k v (map r ps) (leb-true 1 v e) l)))
      (λ e. omega (arith, leb-false 1 v e))

-- it is no more than a bound of them all
pub highest-le : (k t : ℕ) {A : Type 0} (r : A → ℕ) (ps : List A) → ((p : A) → r p ≤ t) → highest k (map r ps) ≤ t
unfolding highest
highest-le k t {A = A} r ps h = go k ps
  where
    go : (k : ℕ) (ps : List A) → highest k (map r ps) ≤ t
    go zero ps = zero-le
    go (suc k) [] = zero-le
    go (suc zero) (p ∷ ps) = omega (arith, h p, go 1 ps)
    go (suc (suc k)) (p ∷ ps) = omega (arith, h p, go (suc (suc k)) ps)
