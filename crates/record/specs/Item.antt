-- The items of the four groups. Each reader is given the items before it in its group. Assumes nothing.
use Rattle.std.specs.Prelude.{List, [], ◌∷◌, ◌++◌, map, ℕ, zero, suc, ◌+◌, ltb, leb, length, get_or}
use Rattle.text.specs.Choice.{pick}
use Rattle.text.specs.Scan.{run}
use Rattle.text.specs.Class.{in_class, plain}
use Rattle.limits.specs.Limits.{least_value, most_value, least_requester, most_requester, least_name, most_name, least_setting, most_setting, least_text, most_text, most_standing}
use Rattle.record.specs.Query.{Attribute, Supplied}
use Rattle.record.specs.Read.{Read, got, bad, and_then}
use Rattle.record.specs.Field.{count_at, field_at, name_front, permitted, askable, distinct}

-- "hold any byte but 0"
unfoldable pub plain_at : List ℕ → ℕ → ℕ → ℕ → Read (List ℕ)
plain_at s least most at = and_then (field_at s least most at) (λ b p. permitted (run (in_class plain) b) b (at + 2) (got b p))

-- "compliance values … are distinct"
unfoldable pub value_at : List ℕ → List (List ℕ) → ℕ → Read (List ℕ)
value_at s seen at = and_then (plain_at s least_value most_value at) (λ b p. distinct b seen (at + 2) (got b p))

-- "requesters may repeat"; none is named POLICY
unfoldable pub requester_at : List ℕ → List (List ℕ) → ℕ → Read (List ℕ)
requester_at s seen at = and_then (plain_at s least_requester most_requester at) (λ b p. askable b (at + 2) (got b p))

-- a name, distinct from those before
unfoldable pub attribute_name_at : List ℕ → List (List ℕ) → ℕ → Read (List ℕ)
attribute_name_at s seen at =
    and_then (field_at s least_name most_name at) (λ b p. permitted (name_front b) b (at + 2) (distinct b seen (at + 2) (got b p)))

-- "name length, name, value length, value"
unfoldable pub attribute_at : List ℕ → List Attribute → ℕ → Read Attribute
attribute_at s seen at =
    and_then (attribute_name_at s (map (λ a. a.name) seen) at) (λ n p. and_then (plain_at s least_setting most_setting p) (λ v q. got (record { name = n; value = v }) q))

-- "a standing byte, length, text": 3 where the byte doesn't fit, 8 "standing above 2"
unfoldable pub assertion_at : List ℕ → List Supplied → ℕ → Read Supplied
assertion_at s seen at =
    pick (leb (length s) at) (bad 3 at)
    (pick (ltb most_standing (get_or s at 0)) (bad 8 at)
    (and_then (field_at s least_text most_text (at + 1)) (λ t p. got (record { standing = get_or s at 0; text = t }) p)))

-- so many items, one behind the other
unfoldable pub items_at : {A : Type 0} → (List A → ℕ → Read A) → ℕ → List A → ℕ → Read (List A)
items_at item zero seen at = got seen at
items_at item (suc n) seen at = and_then (item seen at) (λ a p. items_at item n (seen ++ (a ∷ [])) p)

-- "four groups, each a count byte and its items"
unfoldable pub group_at : {A : Type 0} → List ℕ → ℕ → ℕ → (List A → ℕ → Read A) → ℕ → Read (List A)
group_at s least most item at = and_then (count_at s least most at) (λ n p. items_at item n [] p)
