-- Equality of byte strings as a test. Assumes nothing.
use Rattle.std.specs.Prelude.{◌≡◌, refl, Bool, true, false, ◌&&◌, List, [], ◌∷◌, ℕ, eqb}
use Rattle.std.proofs.Common.{eqb-true, eq-eqb}
use Rattle.text.specs.Choice.{split}

-- the same bytes in the same order
unfoldable pub equal : List ℕ → List ℕ → Bool
equal [] [] = true
equal [] (y ∷ ys) = false
equal (x ∷ xs) [] = false
equal (x ∷ xs) (y ∷ ys) = eqb x y && equal xs ys

-- the test decides equality
pub equal-refl : (a : List ℕ) → equal a a ≡ true
unfolding equal
equal-refl [] = refl
equal-refl (x ∷ xs) = rw (eq-eqb x x refl) (equal-refl xs)

pub equal-true : (a b : List ℕ) → equal a b ≡ true → a ≡ b
unfolding equal
equal-true [] [] e = refl
equal-true [] (y ∷ ys) e = cc
equal-true (x ∷ xs) [] e = cc
equal-true (x ∷ xs) (y ∷ ys) e = split (eqb x y) (λ h. cc (eqb-true x y h, equal-true xs ys (rw h at e))) (λ h. cc)
