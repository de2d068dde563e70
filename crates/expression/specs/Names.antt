-- What a name stands for. Assumes nothing.
use Rattle.std.specs.Prelude.{List, [], ◌∷◌, ℕ, ◌-◌, length, get_or}
use Rattle.text.specs.Choice.{pick}
use Rattle.text.specs.Equal.{equal}
use Rattle.text.specs.Join.{joined}
use Rattle.record.specs.Query.{Query, Attribute}

-- what an assertion's Conditions are evaluated in: its constants that stand earlier in the text, and the query
pub record Environment : Type 0 where
  pub constants : List Attribute
  pub values : List (List ℕ)
  pub requesters : List (List ℕ)
  pub attributes : List Attribute

-- a query's environment, with the constants that an assertion's Conditions see
unfoldable pub environment : Query → List Attribute → Environment
environment q cs = record { constants = cs; values = q.values; requesters = q.requesters; attributes = q.attributes }

-- "_MIN_TRUST"
abbrev pub min_trust : List ℕ
min_trust = 95 ∷ 77 ∷ 73 ∷ 78 ∷ 95 ∷ 84 ∷ 82 ∷ 85 ∷ 83 ∷ 84 ∷ []

-- "_MAX_TRUST"
abbrev pub max_trust : List ℕ
max_trust = 95 ∷ 77 ∷ 65 ∷ 88 ∷ 95 ∷ 84 ∷ 82 ∷ 85 ∷ 83 ∷ 84 ∷ []

-- "_VALUES"
abbrev pub all_values : List ℕ
all_values = 95 ∷ 86 ∷ 65 ∷ 76 ∷ 85 ∷ 69 ∷ 83 ∷ []

-- "_ACTION_AUTHORIZERS"
abbrev pub authorizers : List ℕ
authorizers = 95 ∷ 65 ∷ 67 ∷ 84 ∷ 73 ∷ 79 ∷ 78 ∷ 95 ∷ 65 ∷ 85 ∷ 84 ∷ 72 ∷ 79 ∷ 82 ∷ 73 ∷ 90 ∷ 69 ∷ 82 ∷ 83 ∷ []

-- the value of the first with that name, else another
unfoldable pub setting_or : List Attribute → List ℕ → List ℕ → List ℕ
setting_or [] name other = other
setting_or (a ∷ l) name other = pick (equal a.name name) a.value (setting_or l name other)

-- "then _MIN_TRUST, _MAX_TRUST, _VALUES, _ACTION_AUTHORIZERS (comma-joined as supplied), then the query, else empty"
unfoldable pub from_query : Environment → List ℕ → List ℕ
from_query env name =
    pick (equal name min_trust) (get_or env.values 0 [])
    (pick (equal name max_trust) (get_or env.values (length env.values - 1) [])
    (pick (equal name all_values) (joined env.values)
    (pick (equal name authorizers) (joined env.requesters) (setting_or env.attributes name []))))

-- "Names: Local-Constants where that field stands earlier in the text", then the query
unfoldable pub lookup : Environment → List ℕ → List ℕ
lookup env name = setting_or env.constants name (from_query env name)
