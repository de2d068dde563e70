-- The K-th highest as the code finds it, and that it is the K-th highest. Assumes nothing.
use Rattle.std.specs.Prelude.{◌≡◌, refl, ◌⊎◌, ℕ, zero, suc, ◌+◌, ◌≤◌, ◌<◌, min, max, leb, length, get_or, drop, count_by}
use Rattle.std.proofs.Common.{inl, inr, ⊎_elim, zero-le, le_trans, le_refl, le_antisymm, add-one, drop_of_length-le, drop-cons}
use mathlib.Core.List.Memᴰ.{head as here}
use mathlib.Core.List.Memᴰ.{tail as there}
use mathlib.Core.List.{List, [], ◌∷◌, Memᴰ as Mem}
use native.Mathlib.Omega.{arith}
use Rattle.std.proofs.lemmas.List.Recursion.{is_count_by}
use borrow.Author.Tests.{leb-true, leb-false, le-leb, lt-leb}
use Rattle.text.specs.Choice.{pick, split}
use Rattle.compliance.specs.Highest.{highest, at_least}
use Rattle.compliance.specs.Theorems.Highest.{highest-count, count-highest}

-- x where at least k of the list are x or more, else 0
unfoldable pub candidate_of : ℕ → List ℕ → ℕ → ℕ
candidate_of k all x = pick (leb k (at_least x all)) x 0

-- the highest of best and the candidates of the list
unfoldable pub best_of : ℕ → List ℕ → List ℕ → ℕ → ℕ
best_of k all [] best = best
best_of k all (x ∷ xs) best = best_of k all xs (max best (candidate_of k all x))

unfoldable pub best_from : ℕ → List ℕ → ℕ → ℕ → ℕ
best_from k all i best = best_of k all (drop i all) best

-- ---- the ways

-- `at_least`
pub counted : (v : ℕ) (xs : List ℕ) → at_least v xs ≡ count_by (leb v) xs
unfolding at_least
counted v xs = is_count_by (at_least v) (leb v) refl (λ x ys. split (leb v x) (λ e. rw e (omega arith)) (λ e. rw e (omega arith))) xs

-- ---- the candidates' highest is the K-th highest

best-le : (k : ℕ) (all xs : List ℕ) (b w : ℕ) → b ≤ w → ((x : ℕ) → Mem x xs → candidate_of k all x ≤ w) → best_of k all xs b ≤ w
unfolding best_of
best-le k all [] b w h g = h
best-le k all (x ∷ xs) b w h g = best-le k all xs (max b (candidate_of k all x)) w (omega (arith, g x (here refl))) (λ y m. g y (there m))

best-start : (k : ℕ) (all xs : List ℕ) (b : ℕ) → b ≤ best_of k all xs b
unfolding best_of
best-start k all [] b = le_refl b
best-start k all (x ∷ xs) b = omega (arith, best-start k all xs (max b (candidate_of k all x)))

best-mem : (k : ℕ) (all xs : List ℕ) (b x : ℕ) → Mem x xs → candidate_of k all x ≤ best_of k all xs b
unfolding best_of
best-mem k all xs b x m = go xs b m
  where
    go : (xs : List ℕ) (b : ℕ) → Mem x xs → candidate_of k all x ≤ best_of k all xs b
    go xs b (here {x = y} {xs = ys} e) = rw (← e) (omega (arith, best-start k all ys (max b (candidate_of k all x))))
    go xs b (there {x = y} {xs = ys} m) = go ys (max b (candidate_of k all y)) m

highest-mem : (k : ℕ) (xs : List ℕ) → (highest k xs ≡ 0) ⊎ Mem (highest k xs) xs
unfolding highest
highest-mem zero xs = inl refl
highest-mem (suc k) [] = inl refl
highest-mem (suc zero) (x ∷ xs) = split (leb x (highest 1 xs))
    (λ e. let z : max x (highest 1 xs) ≡ highest 1 xs = omega (arith, leb-true x (highest 1 xs) e) in rw z (⊎_elim inl (λ m. inr (there m)) (highest-mem 1 xs)))
    (λ e. inr (here (omega (arith, leb-false x (highest 1 xs) e))))
highest-mem (suc (suc k)) (x ∷ xs) =
    let a = highest (suc (suc k)) xs in
    let c = highest (suc k) xs in
    split (leb (min x c) a)
    (λ e. let z : max a (min x c) ≡ a = omega (arith, leb-true (min x c) a e) in rw z (⊎_elim inl (λ m. inr (there m)) (highest-mem (suc (suc k)) xs)))
    (λ e. split (leb x c)
    (λ f. inr (here (omega (arith, leb-true x c f, leb-false (min x c) a e))))
    (λ f. let z : max a (min x c) ≡ c = omega (arith, leb-false x c f, leb-false (min x c) a e) in rw z (⊎_elim inl (λ m. inr (there m)) (highest-mem (suc k) xs))))

candidate-le : (k : ℕ) (all : List ℕ) (x : ℕ) → candidate_of (suc k) all x ≤ highest (suc k) all
unfolding candidate_of
candidate-le k all x = split (leb (suc k) (at_least x all))
    (λ e. rw e (count-highest k x all (leb-true _ _ e)))
    (λ e. rw e zero-le)

highest-candidate : (k : ℕ) (all : List ℕ) → 0 < highest (suc k) all → candidate_of (suc k) all (highest (suc k) all) ≡ highest (suc k) all
unfolding candidate_of
highest-candidate k all h = rw (le-leb (suc k) (at_least (highest (suc k) all) all) (highest-count k (highest (suc k) all) all h (le_refl _)))

pub best-highest : (k : ℕ) (all : List ℕ) → best_of (suc k) all all 0 ≡ highest (suc k) all
best-highest k all = le_antisymm
    (best-le (suc k) all all 0 (highest (suc k) all) zero-le (λ x m. candidate-le k all x))
    (split (leb 1 (highest (suc k) all))
    (λ e. ⊎_elim
    (λ z. omega (arith, z))
    (λ m. le_trans (omega (arith, highest-candidate k all (leb-true 1 _ e))) (best-mem (suc k) all all 0 (highest (suc k) all) m))
    (highest-mem (suc k) all))
    (λ e. omega (arith, leb-false 1 (highest (suc k) all) e)))

pub best_none : (k : ℕ) (all : List ℕ) → k ≡ 0 → 0 ≡ highest k all
unfolding highest
best_none k all e = rw e

pub best-begin : (k : ℕ) (all : List ℕ) → (k ≡ 0 → ⊥) → best_from k all 0 0 ≡ highest k all
unfolding best_from
best-begin zero all n = absurd (n refl)
best-begin (suc k) all n = best-highest k all

module _ (k : ℕ) (all : List ℕ) (i best r : ℕ) (inv : best_from k all i best ≡ r) where
  best-more : i < length all → (b : ℕ) → b ≡ max best (candidate_of k all (get_or all i 0)) → best_from k all (i + 1) b ≡ r
  unfolding best_from best_of
  best-more h b be = rw (add-one i, be) (rw (drop-cons all i 0 h) at inv)

  -- the next is the best, or it is no higher, or too few are as high
  module _ (h : i < length all) (x : ℕ) (xe : x ≡ get_or all i 0) where
    pub best-rises : best < x → (c : ℕ) → c ≡ at_least x all → k ≤ c → best_from k all (i + 1) x ≡ r
    unfolding candidate_of
    best-rises l c ce g = best-more h x (rw (← xe, ← ce, le-leb k c g) (omega arith))

    pub best-stays : x ≤ best → best_from k all (i + 1) best ≡ r
    unfolding candidate_of
    best-stays l = best-more h best (rw (← xe) (split (leb k (at_least x all)) (λ e. rw e (omega arith)) (λ e. rw e (omega arith))))

    pub best-few : (c : ℕ) → c ≡ at_least x all → c < k → best_from k all (i + 1) best ≡ r
    unfolding candidate_of
    best-few c ce g = best-more h best (rw (← xe, ← ce, lt-leb k c g) (omega arith))

  pub best-end : length all ≤ i → best ≡ r
  unfolding best_from best_of
  best-end h = rw (drop_of_length-le all h) at inv

-- ---- two values

pub two-or : (a b k r : ℕ) → k ≡ 1 → r ≡ max a b → r ≡ highest k (a ∷ b ∷ [])
unfolding highest
two-or a b k r e h = rw e (omega arith)

pub two-and : (a b k r : ℕ) → k ≡ 2 → r ≡ min a b → r ≡ highest k (a ∷ b ∷ [])
unfolding highest
two-and a b k r e h = rw e (omega arith)
