-- Working definition: how far two byte strings agree. The code compares by one scan; these laws turn its stop into equality and order.
-- Assumes nothing.
use Rattle.std.specs.Prelude.{◌≡◌, refl, List, [], ◌∷◌, ℕ, suc, ◌+◌, ◌<◌, ◌≤◌, eqb, ltb, length, get_or, drop}
use Rattle.std.proofs.Math.Path.{sym}
use Rattle.std.proofs.Common.{◌∙◌, arith, add-one, add-zero, not-suc-le-zero, le_of_suc-le-suc, drop_of_length-le}
use Rattle.std.proofs.Math.Seq.{drop-cons}
use Rattle.std.specs.Cmp.Lexicographic.{slice_cmp}
use Rattle.std.specs.Ordering.{nat_cmp}
use borrow.Author.Tests.{ltb-true, ltb-false, lt-ltb, le-ltb, eq-eqb, ne_eqb, eqb-true, eqb-false}
use Rattle.text.specs.Choice.{pick, split}
use Rattle.text.specs.Order.{order}
use Rattle.std.specs.declared.cmp.Ordering.TheVariants.{Less, Equal, Greater}

-- the length of the longest front that both share
unfoldable pub common : List ℕ → List ℕ → ℕ
common [] ys = 0
common (x ∷ xs) [] = 0
common (x ∷ xs) (y ∷ ys) = pick (eqb x y) (suc (common xs ys)) 0

-- the same, with i bytes compared already
unfoldable pub common_from : List ℕ → List ℕ → ℕ → ℕ
common_from a b i = i + common (drop i a) (drop i b)

common-nil : (a : List ℕ) → common a [] ≡ 0
unfolding common
common-nil [] = refl
common-nil (x ∷ xs) = refl

-- the loop: start, one more byte, a stop at a byte, either end
pub common-start : (a b : List ℕ) → common_from a b 0 ≡ common a b
unfolding common_from
common-start a b = omega arith

module _ (a b : List ℕ) (i r : ℕ) (inv : common_from a b i ≡ r) where
  pub common-end : length a ≤ i → i ≡ r
  unfolding common_from common
  common-end h = sym (add-zero i) ∙ (rw (drop_of_length-le a h) at inv)

  pub common-short : length b ≤ i → i ≡ r
  unfolding common_from
  common-short h = sym (add-zero i) ∙ (rw (drop_of_length-le b h, common-nil (drop i a)) at inv)

  module _ (h : i < length a) (k : i < length b) where
    pub common-stop : (get_or a i 0 ≡ get_or b i 0 → ⊥) → i ≡ r
    unfolding common_from common
    common-stop n = sym (add-zero i) ∙ (rw (drop-cons a i 0 h, drop-cons b i 0 k, ne_eqb _ _ n) at inv)

    pub common-more : get_or a i 0 ≡ get_or b i 0 → common_from a b (i + 1) ≡ r
    unfolding common_from common
    common-more e = rw (add-one i) (omega (arith, rw (drop-cons a i 0 h, drop-cons b i 0 k, eq-eqb _ _ e) at inv))

-- order from where the scan stops
order-less : (a b : List ℕ) → common a b < length a → common a b < length b → get_or a (common a b) 0 < get_or b (common a b) 0 → order a b ≡ Less
unfolding common order
order-less [] b h k l = absurd (not-suc-le-zero h)
order-less (x ∷ xs) [] h k l = absurd (not-suc-le-zero k)
order-less (x ∷ xs) (y ∷ ys) h k l =
    split (eqb x y)
    (λ e. let z : x ≡ y = eqb-true x y e in
    rw (le-ltb x y (omega arith), le-ltb y x (omega arith))
    (order-less xs ys (le_of_suc-le-suc (rw e at h)) (le_of_suc-le-suc (rw e at k)) (rw e at l)))
    (λ e. rw (lt-ltb x y (rw e at l)))

order-greater : (a b : List ℕ) → common a b < length a → common a b < length b → get_or b (common a b) 0 ≤ get_or a (common a b) 0 → order a b ≡ Greater
unfolding common order
order-greater [] b h k l = absurd (not-suc-le-zero h)
order-greater (x ∷ xs) [] h k l = absurd (not-suc-le-zero k)
order-greater (x ∷ xs) (y ∷ ys) h k l =
    split (eqb x y)
    (λ e. let z : x ≡ y = eqb-true x y e in
    rw (le-ltb x y (omega arith), le-ltb y x (omega arith))
    (order-greater xs ys (le_of_suc-le-suc (rw e at h)) (le_of_suc-le-suc (rw e at k)) (rw e at l)))
    (λ e. let l' : y ≤ x = rw e at l in
    let n : x ≡ y → ⊥ = eqb-false x y e in
    rw (le-ltb x y l', lt-ltb y x (omega arith)))

order-prefix : (a b : List ℕ) → length a ≤ common a b → common a b < length b → order a b ≡ Less
unfolding common order
order-prefix [] [] h k = absurd (not-suc-le-zero k)
order-prefix [] (y ∷ ys) h k = refl
order-prefix (x ∷ xs) [] h k = absurd (not-suc-le-zero k)
order-prefix (x ∷ xs) (y ∷ ys) h k =
    split (eqb x y)
    (λ e. let z : x ≡ y = eqb-true x y e in
    rw (le-ltb x y (omega arith), le-ltb y x (omega arith))
    (order-prefix xs ys (le_of_suc-le-suc (rw e at h)) (le_of_suc-le-suc (rw e at k))))
    (λ e. absurd (not-suc-le-zero (rw e at h)))

order-longer : (a b : List ℕ) → common a b < length a → length b ≤ common a b → order a b ≡ Greater
unfolding common order
order-longer [] b h k = absurd (not-suc-le-zero h)
order-longer (x ∷ xs) [] h k = refl
order-longer (x ∷ xs) (y ∷ ys) h k =
    split (eqb x y)
    (λ e. let z : x ≡ y = eqb-true x y e in
    rw (le-ltb x y (omega arith), le-ltb y x (omega arith))
    (order-longer xs ys (le_of_suc-le-suc (rw e at h)) (le_of_suc-le-suc (rw e at k))))
    (λ e. absurd (not-suc-le-zero (rw e at k)))

order_same : (a b : List ℕ) → length a ≤ common a b → length b ≤ common a b → order a b ≡ Equal
unfolding common order
order_same [] [] h k = refl
order_same [] (y ∷ ys) h k = absurd (not-suc-le-zero k)
order_same (x ∷ xs) [] h k = absurd (not-suc-le-zero h)
order_same (x ∷ xs) (y ∷ ys) h k =
    split (eqb x y)
    (λ e. let z : x ≡ y = eqb-true x y e in
    rw (le-ltb x y (omega arith), le-ltb y x (omega arith))
    (order_same xs ys (le_of_suc-le-suc (rw e at h)) (le_of_suc-le-suc (rw e at k))))
    (λ e. absurd (not-suc-le-zero (rw e at h)))

module _ (a b : List ℕ) (i : ℕ) (is : i ≡ common a b) where
  module _ (h : i < length a) (k : i < length b) where
    pub stop-less : get_or a i 0 < get_or b i 0 → Less ≡ order a b
    stop-less l = sym (order-less a b (rw is at h) (rw is at k) (rw is at l))

    pub stop-greater : get_or b i 0 ≤ get_or a i 0 → Greater ≡ order a b
    stop-greater l = sym (order-greater a b (rw is at h) (rw is at k) (rw is at l))

  pub stop-prefix : length a ≤ i → i < length b → Less ≡ order a b
  stop-prefix h k = sym (order-prefix a b (rw is at h) (rw is at k))

  pub stop-longer : i < length a → length b ≤ i → Greater ≡ order a b
  stop-longer h k = sym (order-longer a b (rw is at h) (rw is at k))

  pub stop-same : length a ≤ i → length b ≤ i → Equal ≡ order a b
  stop-same h k = sym (order_same a b (rw is at h) (rw is at k))

-- the library's order of lists of numbers is this order
pub order_cmp : (a b : List ℕ) → slice_cmp nat_cmp a b ≡ order a b
unfolding order
order_cmp [] [] = refl
order_cmp [] (y ∷ ys) = refl
order_cmp (x ∷ xs) [] = refl
order_cmp (x ∷ xs) (y ∷ ys) =
    split (ltb x y) (λ h. rw h)
    (λ h. split (ltb y x)
    (λ k. let l : y < x = ltb-true y x k in
    let n : x ≡ y → ⊥ = λ e. omega arith in
    rw (h, k, ne_eqb x y n))
    (λ k. let l₁ : y ≤ x = ltb-false x y h in
    let l₂ : x ≤ y = ltb-false y x k in
    let q : x ≡ y = omega arith in
    rw (h, k, eq-eqb x y q) (order_cmp xs ys)))
