-- "comma-joined as supplied". Assumes nothing.
use Rattle.std.specs.Prelude.{List, [], ◌∷◌, ◌++◌, ℕ}

-- each behind a comma
unfoldable pub followed : List (List ℕ) → List ℕ
followed [] = []
followed (x ∷ xs) = (44 ∷ x) ++ followed xs

-- the strings with a comma between each two
unfoldable pub joined : List (List ℕ) → List ℕ
joined [] = []
joined (x ∷ xs) = x ++ followed xs
