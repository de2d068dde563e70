-- The record of a query, with a buffer of constants, represents the environment of that query and those constants. Assumes nothing.
use Rattle.std.specs.Prelude.{◌≡◌, List, map, ℕ, ◌+◌, length}
use Rattle.text.specs.Counted.{counted}
use Rattle.text.specs.Join.{joined}
use Rattle.record.specs.Query.{Query, Attribute}
use Rattle.record.specs.Places.{string_size, attribute_size, places_from, requesters_start, attributes_start}
use Rattle.record.specs.Lies.{Lie, AttributeAt, Lies}
use Rattle.expression.specs.Names.{environment}
use Rattle.expression.specs.Tables.{Shows}
use Rattle.expression.specs.Theorems.Shown.{strings-are}

module _ {s : List ℕ} {q : Query} (lies : Lies s q) where
  -- the strings at the requesters' places are the requesters
  pub requesters-are : map (counted s) (places_from string_size 2 (requesters_start q) q.requesters) ≡ q.requesters
  requesters-are = strings-are s (places_from string_size 2 (requesters_start q) q.requesters) lies.requesters

  pub query-shows : (consts constants : List ℕ) (cs : List Attribute) → Lie (AttributeAt consts) constants cs
      → counted consts 2 ≡ joined q.values → counted consts (2 + length (joined q.values) + 2) ≡ joined q.requesters
      → Shows s consts (places_from string_size 2 2 q.values) (places_from attribute_size 2 (attributes_start q) q.attributes) constants (environment q cs)
  unfolding environment
  query-shows consts constants cs l a b = record { values-lie = lies.values; attributes-lie = lies.attributes; constants-lie = l; values-joined = a; requesters-joined = b }
