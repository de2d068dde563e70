-- That the items of a query lie in its record at their places. Assumes nothing.
use Rattle.std.specs.Prelude.{◌≡◌, List, [], ◌∷◌, ℕ, ◌+◌, ◌-◌, length, get_or}
use Rattle.text.specs.Counted.{counted}
use Rattle.record.specs.Query.{Query, Attribute, Supplied}
use Rattle.record.specs.Places.{string_size, attribute_size, assertion_size, places_from, requesters_start, attributes_start, assertions_start}

-- a string at its place
abbrev pub StringAt : List ℕ → ℕ → List ℕ → Type 0
StringAt s v b = counted s v ≡ b

-- an attribute: its name at its place, its value behind
abbrev pub AttributeAt : List ℕ → ℕ → Attribute → Type 0
AttributeAt s v a = (counted s v ≡ a.name) × (counted s (v + length a.name + 2) ≡ a.value)

-- an assertion: its text at its place, its standing three bytes before
abbrev pub AssertionAt : List ℕ → ℕ → Supplied → Type 0
AssertionAt s v a = (counted s v ≡ a.text) × (get_or s (v - 3) 0 ≡ a.standing)

-- each item at its place
pub data Lie {A : Type 0} (At : ℕ → A → Type 0) : List ℕ → List A → Type 0 where
  lie[] : Lie At [] []
  lie∷ : {v : ℕ} {vs : List ℕ} {a : A} {l : List A} → At v a → Lie At vs l → Lie At (v ∷ vs) (a ∷ l)

pub record Lies (s : List ℕ) (q : Query) : Type 0 where
  pub values : Lie (StringAt s) (places_from string_size 2 2 q.values) q.values
  pub requesters : Lie (StringAt s) (places_from string_size 2 (requesters_start q) q.requesters) q.requesters
  pub attributes : Lie (AttributeAt s) (places_from attribute_size 2 (attributes_start q) q.attributes) q.attributes
  pub assertions : Lie (AssertionAt s) (places_from assertion_size 3 (assertions_start q) q.assertions) q.assertions
