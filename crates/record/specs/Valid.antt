-- The queries that a record can say. Assumes nothing.
use Rattle.std.specs.Prelude.{◌≡◌, false, List, [], ◌∷◌, ◌++◌, map, ℕ, ◌≤◌, length}
use Rattle.text.specs.Scan.{run}
use Rattle.text.specs.Equal.{equal}
use Rattle.text.specs.Class.{in_class, plain}
use Rattle.limits.specs.Limits.{most_record, least_values, most_values, least_value, most_value, least_requesters, most_requesters, least_requester, most_requester, least_attributes, most_attributes, least_name, most_name, least_setting, most_setting, least_assertions, most_assertions, least_text, most_text, most_standing}
use Rattle.principal.specs.Principal.{policy}
use Rattle.record.specs.Query.{Query, Attribute, Supplied}
use Rattle.record.specs.Field.{name_front, among}
use Rattle.record.specs.Encode.{encode}

abbrev pub Between : ℕ → ℕ → ℕ → Type 0
Between least most n = (least ≤ n) × (n ≤ most)

-- of a length within its limits, and with no byte 0
abbrev pub PlainOk : ℕ → ℕ → List ℕ → Type 0
PlainOk least most b = Between least most (length b) × (length b ≤ run (in_class plain) b)

-- each item, given those before it in its group
abbrev pub ValueOk : List (List ℕ) → List ℕ → Type 0
ValueOk seen b = PlainOk least_value most_value b × (among b seen ≡ false)

abbrev pub RequesterOk : List (List ℕ) → List ℕ → Type 0
RequesterOk seen b = PlainOk least_requester most_requester b × (equal b policy ≡ false)

abbrev pub NameOk : List (List ℕ) → List ℕ → Type 0
NameOk seen b = Between least_name most_name (length b) × ((length b ≤ name_front b) × (among b seen ≡ false))

abbrev pub AttributeOk : List Attribute → Attribute → Type 0
AttributeOk seen a = NameOk (map (λ b. b.name) seen) a.name × PlainOk least_setting most_setting a.value

abbrev pub SuppliedOk : List Supplied → Supplied → Type 0
SuppliedOk seen a = (a.standing ≤ most_standing) × Between least_text most_text (length a.text)

pub data Each {A : Type 0} (Ok : List A → A → Type 0) : List A → List A → Type 0 where
  each[] : {seen : List A} → Each Ok seen []
  each∷ : {seen l : List A} {a : A} → Ok seen a → Each Ok (seen ++ (a ∷ [])) l → Each Ok seen (a ∷ l)

abbrev pub GroupOk : {A : Type 0} → ℕ → ℕ → (List A → A → Type 0) → List A → Type 0
GroupOk least most Ok l = Between least most (length l) × Each Ok [] l

pub record Valid (q : Query) : Type 0 where
  pub values : GroupOk least_values most_values ValueOk q.values
  pub requesters : GroupOk least_requesters most_requesters RequesterOk q.requesters
  pub attributes : GroupOk least_attributes most_attributes AttributeOk q.attributes
  pub assertions : GroupOk least_assertions most_assertions SuppliedOk q.assertions
  pub short : length (encode q) ≤ most_record
