-- The labels of an assertion's fields. Assumes nothing.
use Rattle.std.specs.Prelude.{List, [], ◌∷◌, ℕ, ◌+◌, set}
use Rattle.lexical.specs.Kind

-- for each kind of token, 1 where it is a label that may still stand: the seven labels are the kinds 4 to 10
abbrev pub labels : List ℕ
labels = 0 ∷ 0 ∷ 0 ∷ 0 ∷ 1 ∷ 1 ∷ 1 ∷ 1 ∷ 1 ∷ 1 ∷ 1 ∷ []

-- "Each at most once"; KeyNote-Version "if present, first"
unfoldable pub without : List ℕ → ℕ → List ℕ
without free kind = set (set free Kind.KEYNOTE_VERSION 0) kind 0

-- how many labels may still stand
unfoldable pub total : List ℕ → ℕ
total [] = 0
total (x ∷ l) = x + total l
