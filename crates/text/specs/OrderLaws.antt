-- What the order of byte strings is. Assumes nothing.
use Rattle.std.specs.Prelude.{◌≡◌, refl, false, List, [], ◌∷◌, ◌++◌, ℕ, ◌<◌, ◌≤◌, ltb}
use Rattle.std.proofs.Common.{arith, lt-ltb, le-ltb, ltb-true, ltb-false}
use Rattle.text.specs.Choice.{split}
use Rattle.text.specs.Order.{order}
use Rattle.std.specs.declared.cmp.Ordering.{Ordering}
use Rattle.std.specs.declared.cmp.Ordering.TheVariants.{Less, Equal, Greater}

no : (x : ℕ) → ltb x x ≡ false
no x = le-ltb x x (omega arith)

-- a string is equal to itself, and to nothing else
pub order-refl : (a : List ℕ) → order a a ≡ Equal
unfolding order
order-refl [] = refl
order-refl (x ∷ xs) = rw (no x) (order-refl xs)

pub order-equal : (a b : List ℕ) → order a b ≡ Equal → a ≡ b
unfolding order
order-equal [] [] e = refl
order-equal [] (y ∷ ys) e = cc
order-equal (x ∷ xs) [] e = cc
order-equal (x ∷ xs) (y ∷ ys) e =
    split (ltb x y) (λ h. let z : Less ≡ Equal = rw h at e in cc)
    (λ h. split (ltb y x) (λ k. let z : Greater ≡ Equal = rw (h, k) at e in cc)
    (λ k. let l₁ : y ≤ x = ltb-false x y h in
    let l₂ : x ≤ y = ltb-false y x k in
    let q : x ≡ y = omega arith in
    cc (q, order-equal xs ys (rw (h, k) at e))))

-- "a proper prefix is less"
pub order-prefix : (a : List ℕ) (y : ℕ) (ys : List ℕ) → order a (a ++ (y ∷ ys)) ≡ Less
unfolding order
order-prefix [] y ys = refl
order-prefix (x ∷ xs) y ys = rw (no x) (order-prefix xs y ys)

-- "by byte": the first byte that differs decides
pub order-byte : (c : List ℕ) (x y : ℕ) (a b : List ℕ) → x < y → order (c ++ (x ∷ a)) (c ++ (y ∷ b)) ≡ Less
unfolding order
order-byte [] x y a b h = rw (lt-ltb x y h)
order-byte (z ∷ c) x y a b h = rw (no z) (order-byte c x y a b h)

-- the other way round
unfoldable pub flipped : Ordering → Ordering
flipped Less = Greater
flipped Equal = Equal
flipped Greater = Less

pub order_flip : (a b : List ℕ) → order b a ≡ flipped (order a b)
unfolding order flipped
order_flip [] [] = refl
order_flip [] (y ∷ ys) = refl
order_flip (x ∷ xs) [] = refl
order_flip (x ∷ xs) (y ∷ ys) =
    split (ltb x y) (λ h. let l : x < y = ltb-true x y h in rw (h, le-ltb y x (omega arith)))
    (λ h. split (ltb y x) (λ k. rw (h, k)) (λ k. rw (h, k) (order_flip xs ys)))
