-- Where the items of a query lie in its record: the place of each value, requester, attribute name and assertion text. Assumes nothing.
use Rattle.std.specs.Prelude.{List, [], ◌∷◌, ◌++◌, ℕ, ◌+◌, length}
use Rattle.record.specs.Query.{Query, Attribute, Supplied}

-- how many bytes an item takes, its lengths and its standing with it
unfoldable pub string_size : List ℕ → ℕ
string_size b = 2 + length b

unfoldable pub attribute_size : Attribute → ℕ
attribute_size a = string_size a.name + string_size a.value

unfoldable pub assertion_size : Supplied → ℕ
assertion_size a = 1 + string_size a.text

module _ {A : Type 0} (size : A → ℕ) (lead : ℕ) where
  -- items one behind the other from a place on: each one's string starts `lead` bytes in
  unfoldable pub places_from : ℕ → List A → List ℕ
  places_from at [] = []
  places_from at (a ∷ l) = (at + lead) ∷ places_from (at + size a) l

  -- the place behind them
  unfoldable pub end_from : ℕ → List A → ℕ
  end_from at [] = at
  end_from at (a ∷ l) = end_from (at + size a) l

-- the groups start behind the version byte, each behind its count byte
unfoldable pub requesters_start : Query → ℕ
requesters_start q = end_from string_size 2 2 q.values + 1

unfoldable pub attributes_start : Query → ℕ
attributes_start q = end_from string_size 2 (requesters_start q) q.requesters + 1

unfoldable pub assertions_start : Query → ℕ
assertions_start q = end_from attribute_size 2 (attributes_start q) q.attributes + 1

-- all places, group by group
unfoldable pub places : Query → List ℕ
places q =
    places_from string_size 2 2 q.values ++ places_from string_size 2 (requesters_start q) q.requesters
    ++ places_from attribute_size 2 (attributes_start q) q.attributes ++ places_from assertion_size 3 (assertions_start q) q.assertions
