-- Licensees: who they name, and their rank under ranks of the principals. Assumes nothing.
use Rattle.std.specs.Prelude.{List, [], ◌∷◌, ◌++◌, map, ℕ, min, max}
use Rattle.principal.specs.Principal.{Principal}
use Rattle.compliance.specs.Highest.{highest}

-- a number for each principal, 0 the weakest
abbrev pub Rank : Type 0
Rank = Principal → ℕ

-- "names joined by && and ||, brackets, K-of(list)"
pub data Expression : Type 0 where
  name : Principal → Expression
  and : Expression → Expression → Expression
  or : Expression → Expression → Expression
  k_of : ℕ → List Principal → Expression

-- the field Licensees of an assertion
pub data Licensees : Type 0 where
  missing : Licensees
  empty : Licensees
  given : Expression → Licensees

-- "&&, ||, K-of are minimum, maximum, K-th highest with multiplicity"
unfoldable pub value : Rank → Expression → ℕ
value r (name p) = r p
value r (and a b) = min (value r a) (value r b)
value r (or a b) = max (value r a) (value r b)
value r (k_of k ps) = highest k (map r ps)

-- "A missing field is top, an empty one 0."
unfoldable pub licensed : ℕ → Rank → Licensees → ℕ
licensed top r missing = top
licensed top r empty = 0
licensed top r (given e) = value r e

-- the principals that an expression names, as often as it does
unfoldable pub named : Expression → List Principal
named (name p) = p ∷ []
named (and a b) = named a ++ named b
named (or a b) = named a ++ named b
named (k_of k ps) = ps

-- "every licensee" of a field
unfoldable pub licensees : Licensees → List Principal
licensees missing = []
licensees empty = []
licensees (given e) = named e
