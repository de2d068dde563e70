-- Working definitions: the cursor's steps, by places, and the ways out of each. `Ties` says what they have to do with the readers of
-- Field and Item. Assumes nothing.
use Rattle.std.specs.Prelude.{Result, Ok, Err, List, map, ℕ, ◌+◌, ◌-◌, ltb, leb, length, get_or}
use Rattle.text.specs.Choice.{pick}
use Rattle.text.specs.Scan.{run}
use Rattle.text.specs.Class.{in_class, plain}
use Rattle.text.specs.Equal.{equal}
use Rattle.text.specs.Counted.{part, pair_at, counted}
use Rattle.limits.specs.Limits.{least_value, most_value, least_requester, most_requester, least_name, most_name, least_setting, most_setting, least_text, most_text, most_standing}
use Rattle.principal.specs.Principal.{policy}
use Rattle.record.specs.Field.{name_front, among}
use Rattle.record.specs.declared.Cursor.{Cursor}
use Rattle.record.specs.Refusal.{Refused}
use Rattle.record.specs.declared.Step.{Step}
use Rattle.record.specs.declared.Refusal.{Refusal}
use Rattle.record.specs.declared.Group.{Group}
use Rattle.record.specs.declared.Group.TheVariants.{Values, Requesters, Attributes, Assertions}

-- what a step gives: a number and the moved cursor, or a refusal
abbrev pub Moved : Type 0
Moved = Result Step Refusal

abbrev pub To : ℕ → Cursor → Moved
To v c = Ok (record { value = v; next = c })

abbrev pub cursor : ℕ → Cursor
cursor p = record { at = p }

abbrev pub on_to : Moved → (ℕ → ℕ → Moved) → Moved
on_to (Ok m) k = k m.value m.next.at
on_to (Err r) k = Err r

-- the strings at the table's entries from..upto
unfoldable pub seen_of : List ℕ → List ℕ → ℕ → ℕ → List (List ℕ)
seen_of s t from upto = map (counted s) (part t from (upto - from))

abbrev pub within_move : ℕ → ℕ → ℕ → ℕ → ℕ → ℕ → Moved
within_move least most n next number at = pick (ltb n least) (Refused number at) (pick (ltb most n) (Refused number at) (To n (cursor next)))

unfoldable pub count_move : List ℕ → ℕ → ℕ → ℕ → Moved
count_move s least most at = pick (leb (length s) at) (Refused 3 at) (within_move least most (get_or s at 0) (at + 1) 4 at)

unfoldable pub length_move : List ℕ → ℕ → ℕ → ℕ → Moved
length_move s least most at = pick (ltb (length s) (at + 2)) (Refused 3 at) (within_move least most (pair_at s at) (at + 2) 5 at)

unfoldable pub content_move : List ℕ → ℕ → ℕ → Moved
content_move s n at = pick (ltb (length s) (at + n)) (Refused 3 at) (To at (cursor (at + n)))

unfoldable pub field_move : List ℕ → ℕ → ℕ → ℕ → Moved
field_move s least most at = on_to (length_move s least most at) (λ n p. content_move s n p)

abbrev pub permitted_move : ℕ → List ℕ → ℕ → Moved → Moved
permitted_move front b at m = pick (ltb front (length b)) (Refused 6 (at + front)) m

abbrev pub askable_move : List ℕ → ℕ → Moved → Moved
askable_move b at m = pick (equal b policy) (Refused 10 at) m

abbrev pub distinct_move : List ℕ → List (List ℕ) → ℕ → Moved → Moved
distinct_move b seen at m = pick (among b seen) (Refused 7 at) m

unfoldable pub plain_move : List ℕ → ℕ → ℕ → ℕ → Moved
plain_move s least most at = on_to (field_move s least most at) (λ v p. permitted_move (run (in_class plain) (counted s v)) (counted s v) v (To v (cursor p)))

unfoldable pub value_move : List ℕ → List (List ℕ) → ℕ → Moved
value_move s seen at = on_to (plain_move s least_value most_value at) (λ v p. distinct_move (counted s v) seen v (To v (cursor p)))

unfoldable pub requester_move : List ℕ → ℕ → Moved
requester_move s at = on_to (plain_move s least_requester most_requester at) (λ v p. askable_move (counted s v) v (To v (cursor p)))

unfoldable pub name_move : List ℕ → List (List ℕ) → ℕ → Moved
name_move s seen at =
    on_to (field_move s least_name most_name at)
    (λ v p. permitted_move (name_front (counted s v)) (counted s v) v (distinct_move (counted s v) seen v (To v (cursor p))))

unfoldable pub attribute_move : List ℕ → List (List ℕ) → ℕ → Moved
attribute_move s seen at = on_to (name_move s seen at) (λ v p. on_to (plain_move s least_setting most_setting p) (λ w q. To v (cursor q)))

unfoldable pub assertion_move : List ℕ → ℕ → Moved
assertion_move s at =
    pick (leb (length s) at) (Refused 3 at)
    (pick (ltb most_standing (get_or s at 0)) (Refused 8 at) (field_move s least_text most_text (at + 1)))

unfoldable pub item_move : Group → List ℕ → List (List ℕ) → ℕ → Moved
item_move Values s seen at = value_move s seen at
item_move Requesters s seen at = requester_move s at
item_move Attributes s seen at = attribute_move s seen at
item_move Assertions s seen at = assertion_move s at
