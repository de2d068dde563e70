-- The record that says a query. Assumes nothing.
use Rattle.std.specs.Prelude.{List, [], ◌∷◌, ◌++◌, ℕ, ◌/◌, ◌%◌, length}
use Rattle.record.specs.Query.{Query, Attribute, Supplied}

-- "lengths are two bytes, big-endian, before what they measure"
unfoldable pub string_bytes : List ℕ → List ℕ
string_bytes b = (length b / 256 ∷ length b % 256 ∷ []) ++ b

unfoldable pub attribute_bytes : Attribute → List ℕ
attribute_bytes a = string_bytes a.name ++ string_bytes a.value

unfoldable pub assertion_bytes : Supplied → List ℕ
assertion_bytes a = (a.standing ∷ []) ++ string_bytes a.text

unfoldable pub items_bytes : {A : Type 0} → (A → List ℕ) → List A → List ℕ
items_bytes item [] = []
items_bytes item (a ∷ l) = item a ++ items_bytes item l

-- "each a count byte and its items"
unfoldable pub group_bytes : {A : Type 0} → (A → List ℕ) → List A → List ℕ
group_bytes item l = (length l ∷ []) ++ items_bytes item l

-- "Version byte 1, then four groups"
unfoldable pub encode : Query → List ℕ
encode q =
    (1 ∷ []) ++ (group_bytes string_bytes q.values ++ (group_bytes string_bytes q.requesters
    ++ (group_bytes attribute_bytes q.attributes ++ group_bytes assertion_bytes q.assertions)))
