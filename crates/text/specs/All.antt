-- A test of every element of a list, and the steps of a loop that makes it with no early end. Assumes nothing.
use Rattle.std.specs.Prelude.{◌≡◌, refl, Bool, true, false, List, [], ◌∷◌, ◌++◌, ℕ, ◌+◌, ◌<◌, length, get_or, take}
use Rattle.std.proofs.Common.{add-one, take-suc}
use Rattle.text.specs.Choice.{pick, split}

-- does every element pass p?
unfoldable pub all : (ℕ → Bool) → List ℕ → Bool
all p [] = true
all p (x ∷ xs) = pick (p x) (all p xs) false

pub all-empty : (p : ℕ → Bool) → all p [] ≡ true
unfolding all
all-empty p = refl

-- one element more, behind the others
all-stops : (p : ℕ → Bool) (xs : List ℕ) (x : ℕ) → p x ≡ false → all p (xs ++ (x ∷ [])) ≡ false
unfolding all
all-stops p [] x e = rw e
all-stops p (y ∷ xs) x e = split (p y) (λ t. rw t (all-stops p xs x e)) (λ t. rw t)

all-goes : (p : ℕ → Bool) (xs : List ℕ) (x : ℕ) → p x ≡ true → all p (xs ++ (x ∷ [])) ≡ all p xs
unfolding all
all-goes p [] x e = rw e
all-goes p (y ∷ xs) x e = split (p y) (λ t. rw t (all-goes p xs x e)) (λ t. rw t)

module _ (p : ℕ → Bool) (s : List ℕ) (j : ℕ) (h : j < length s) where
  pub all-fails : p (get_or s j 0) ≡ false → all p (take (j + 1) s) ≡ false
  all-fails e = rw (add-one j, take-suc s j 0 h) (all-stops p (take j s) (get_or s j 0) e)

  pub all-passes : p (get_or s j 0) ≡ true → all p (take (j + 1) s) ≡ all p (take j s)
  all-passes e = rw (add-one j, take-suc s j 0 h) (all-goes p (take j s) (get_or s j 0) e)
