-- The canonical form of an identifier, in which principals are compared (W-205). Assumes nothing.
use Rattle.std.specs.Prelude.{Bool, ◌||◌, ◌&&◌, List, [], ◌∷◌, ◌++◌, ℕ, ◌+◌, eqb, leb}
use Rattle.text.specs.Choice.{pick}
use Rattle.text.specs.Equal.{equal}

-- a capital letter as the small one
unfoldable pub fold : ℕ → ℕ
fold b = pick (leb 65 b && leb b 90) (b + 32) b

unfoldable pub folded : List ℕ → List ℕ
folded [] = []
folded (b ∷ l) = fold b ∷ folded l

-- "The part before the first ":"", 58: all where there is none
unfoldable pub front : List ℕ → List ℕ
front [] = []
front (b ∷ p) = pick (eqb b 58) [] (b ∷ front p)

-- the rest with that ":", nothing where there is none
unfoldable pub behind : List ℕ → List ℕ
behind [] = []
behind (b ∷ p) = pick (eqb b 58) (b ∷ p) (behind p)

-- "rsa-hex", "dsa-hex"
abbrev pub rsa_hex : List ℕ
rsa_hex = 114 ∷ 115 ∷ 97 ∷ 45 ∷ 104 ∷ 101 ∷ 120 ∷ []

abbrev pub dsa_hex : List ℕ
dsa_hex = 100 ∷ 115 ∷ 97 ∷ 45 ∷ 104 ∷ 101 ∷ 120 ∷ []

unfoldable pub is_hex : List ℕ → Bool
is_hex a = equal a rsa_hex || equal a dsa_hex

-- "The part before the first ":" compares without case; after rsa-hex: and dsa-hex:, in any case, the rest does too. Identifiers with no ":"
-- stay case-sensitive."
unfoldable pub canonical_with : List ℕ → List ℕ → List ℕ
canonical_with f [] = f
canonical_with f (c ∷ r) = folded f ++ pick (is_hex (folded f)) (folded (c ∷ r)) (c ∷ r)

unfoldable pub canonical : List ℕ → List ℕ
canonical p = canonical_with (front p) (behind p)
