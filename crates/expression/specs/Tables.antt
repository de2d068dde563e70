-- Names looked up in tables of places, as the code does it. Assumes nothing.
use Rattle.std.specs.Prelude.{◌≡◌, List, [], ◌∷◌, map, ℕ, suc, ◌+◌, ◌-◌, leb, length, get_or}
use Rattle.text.specs.Choice.{pick}
use Rattle.text.specs.Counted.{counted}
use Rattle.text.specs.Equal.{equal}
use Rattle.text.specs.Join.{joined}
use Rattle.record.specs.Lies.{Lie, StringAt, AttributeAt}
use Rattle.expression.specs.Names.{Environment, min_trust, max_trust, all_values, authorizers}

-- "The lookup yields the first place whose name matches": which one, counted from i; the number of places where none does
unfoldable pub first_from : List ℕ → List ℕ → ℕ → List ℕ → ℕ
first_from s name i [] = i
first_from s name i (p ∷ ps) = pick (equal (counted s p) name) i (first_from s name (suc i) ps)

-- the string behind that name, else another
unfoldable pub setting_in : List ℕ → List ℕ → List ℕ → List ℕ → List ℕ
setting_in s ps name other =
    pick (leb (length ps) (first_from s name 0 ps)) other (counted s (get_or ps (first_from s name 0 ps) 0 + length name + 2))

-- the constants' buffer begins with the two joined texts
unfoldable pub query_in : List ℕ → List ℕ → List ℕ → List ℕ → List ℕ → List ℕ
query_in rec consts values names name =
    pick (equal name min_trust) (get_or (map (counted rec) values) 0 [])
    (pick (equal name max_trust) (get_or (map (counted rec) values) (length values - 1) [])
    (pick (equal name all_values) (counted consts 2)
    (pick (equal name authorizers) (counted consts (2 + length (counted consts 2) + 2)) (setting_in rec names name []))))

unfoldable pub lookup_in : List ℕ → List ℕ → List ℕ → List ℕ → List ℕ → List ℕ → List ℕ
lookup_in rec consts values names constants name = setting_in consts constants name (query_in rec consts values names name)

-- that a record, a buffer of constants and the tables of places represent an environment
pub record Shows (rec consts values names constants : List ℕ) (env : Environment) : Type 0 where
  pub values-lie : Lie (StringAt rec) values env.values
  pub attributes-lie : Lie (AttributeAt rec) names env.attributes
  pub constants-lie : Lie (AttributeAt consts) constants env.constants
  pub values-joined : counted consts 2 ≡ joined env.values
  pub requesters-joined : counted consts (2 + length (joined env.values) + 2) ≡ joined env.requesters
