-- The K-th highest of a list of numbers, with multiplicity. Assumes nothing.
use Rattle.std.specs.Prelude.{List, [], ◌∷◌, ℕ, zero, suc, ◌+◌, min, max, leb}
use Rattle.text.specs.Choice.{pick}

-- "K-of [is the] K-th highest with multiplicity"; 0 for K = 0, and for a list of fewer than K
unfoldable pub highest : ℕ → List ℕ → ℕ
highest zero xs = 0
highest (suc k) [] = 0
highest (suc zero) (x ∷ xs) = max x (highest 1 xs)
highest (suc (suc k)) (x ∷ xs) = max (highest (suc (suc k)) xs) (min x (highest (suc k) xs))

-- how many of the list are v or more: v is at most the K-th highest exactly when K are (`highest-count`, `count-highest`)
unfoldable pub at_least : ℕ → List ℕ → ℕ
at_least v [] = 0
at_least v (x ∷ xs) = pick (leb v x) 1 0 + at_least v xs
