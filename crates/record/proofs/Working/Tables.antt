-- Working theorems: items, groups and the whole record with the table of places are what `read_record` says. Assumes nothing.
use Rattle.std.specs.Prelude.{◌≡◌, eqb, ltb, get_or, set, replicate}
use Rattle.std.proofs.Math.Path.{refl}
use Rattle.std.proofs.Common.{sym, ap, ◌∙◌, length-set}
use mathlib.Core.List.{List, [], ◌∷◌, ◌++◌, map, append_assoc, append-nil}
use Prim.Native.Nat.{ℕ, zero, suc, ◌+◌, ◌<◌, ◌≤◌}
use native.Mathlib.Omega.{arith}
use Rattle.std.proofs.Math.Nat.{add-zero}
use Rattle.std.proofs.Math.ListN.{length, length-append}
use Rattle.std.proofs.lemmas.List.{length-replicate}
use Rattle.std.proofs.lemmas.Bool.{lt-leb}
use Rattle.text.specs.Choice.{pick, split}
use Rattle.text.specs.Copy.{put}
use Rattle.text.specs.CopyLaws.{put-nil, put-length}
use Rattle.limits.specs.Limits.{most_record, least_values, most_values, least_requesters, most_requesters, least_attributes, most_attributes, least_assertions, most_assertions, most_items}
use Rattle.record.specs.Query.{Query, Attribute, Supplied}
use Rattle.record.specs.Read.{Read, got, and_then, accepted}
use Rattle.record.specs.Item.{value_at, requester_at, attribute_at, assertion_at, items_at, group_at}
use Rattle.record.specs.Record.{query_at, ended, read_record}
use Rattle.record.specs.Places.{string_size, attribute_size, assertion_size, places_from, end_from, requesters_start, attributes_start, assertions_start, places}
use Rattle.record.specs.Lies.{StringAt, AttributeAt, AssertionAt, Lie, lie[], lie∷, Lies}
use Rattle.record.specs.Reading.{Accepted, Told, told, group_ends}
use Rattle.record.specs.Working.Moves.{Moved, To, cursor, seen_of, item_move}
use Rattle.record.specs.Working.Groups.{Ran, ran, Paired, by_group, least_count, most_count, on_move, items_into, group_into, both, on_ran, groups_into, on_both, rest_into, table_into}
use Rattle.record.specs.Working.Ties.{Ties, tie-to, tie-no, Spot, itself, name_of, text_of, count-tie, value-tie, requester-tie, attribute-tie, assertion-tie}
use Rattle.record.specs.Refusal.{Refused}
use Rattle.record.specs.declared.Group.{Group as Kind}
use Rattle.record.specs.declared.Group.TheVariants.{Values, Requesters, Attributes, Assertions}
use Rattle.record.specs.Working.Tables.{Group, Runs, Whole, group-no, group-to, lies-of, map-itself, map-snoc-key, places-length, put-cons, put_next, run-no, run-to, seen_more, seen_none, whole-no, whole_to}

module _ {A : Type 0} (key : A → List ℕ) (At : ℕ → A → Type 0) (size : A → ℕ) (lead : ℕ) (g : Kind) (s : List ℕ) (item : List A → ℕ → Read A)
    (tied : (seen : List A) (at : ℕ) → Ties (Spot s key At size lead at) (item seen at) (item_move g s (map key seen) at)) (from : ℕ) where
  run_none : (t : List ℕ) (i at : ℕ) (seen : List A) → Runs At size lead t i at seen 0 (got seen at) (ran (To i (cursor at)) t)
  unfolding end_from places_from
  run_none t i at seen =
      let r : Runs At size lead t i at seen 0 (got (seen ++ []) at) (ran (To (i + 0) (cursor at)) (put t i [])) = run-to [] refl lie[] in
      rw (append-nil seen, add-zero i, put-nil t i) at r

  run-cons : (n : ℕ) (t : List ℕ) (i at v p : ℕ) (seen : List A) (a : A) → i < length t → v ≡ at + lead → p ≡ at + size a → At v a → {r : Read (List A)} {m : Ran}
      → Runs At size lead (set t i v) (i + 1) p (seen ++ (a ∷ [])) n r m → Runs At size lead t i at seen (suc n) r m
  unfolding end_from places_from
  run-cons n t i at v p seen a h ve pe la run-no = run-no
  run-cons n t i at v p seen a h ve pe la (run-to new l lies) =
      let r : Runs At size lead t i at seen (suc n) (got (seen ++ (a ∷ new)) (end_from size lead (at + size a) new))
      (ran (To (i + suc (length new)) (cursor (end_from size lead (at + size a) new))) (put t i ((at + lead) ∷ places_from size lead (at + size a) new)))
      = run-to (a ∷ new) (ap suc l) (lie∷ (rw ve at la) (rw pe at lies)) in
      let j : i + 1 + length new ≡ i + suc (length new) = omega arith in
      rw (append_assoc seen (a ∷ []) new, j, put-cons t i v (places_from size lead p new) h, ve, pe) r

  abbrev Tied : ℕ → Type 0
  Tied n = (t : List ℕ) (i at : ℕ) (seen : List A) → i + n ≤ length t → from ≤ i → seen_of s t from i ≡ map key seen
      → Runs At size lead t i at seen n (items_at item n seen at) (items_into g s from n i t at)

  step-tie : (n : ℕ) → Tied n → (t : List ℕ) (i at : ℕ) (seen : List A) → i + suc n ≤ length t → from ≤ i → seen_of s t from i ≡ map key seen
      → {r : Read A} {m : Moved} → Ties (Spot s key At size lead at) r m
      → Runs At size lead t i at seen (suc n) (and_then r (λ a p. items_at item n (seen ++ (a ∷ [])) p)) (on_move m t (λ v p. items_into g s from n (i + 1) (set t i v) p))
  step-tie n ih t i at seen room h se tie-no = run-no
  step-tie n ih t i at seen room h se (tie-to {v = v} {p = p} {a = a} spot) =
      let l : i < length t = omega arith in
      let rm : i + 1 + n ≤ length (set t i v) = rw (length-set t i v) (omega arith) in
      let sm : seen_of s (set t i v) from (i + 1) ≡ map key (seen ++ (a ∷ []))
      = seen_more s t from i v h l ∙ rw (se, spot.string) (sym (map-snoc-key key seen a)) in
      run-cons n t i at v p seen a l spot.start spot.end spot.lies (ih (set t i v) (i + 1) p (seen ++ (a ∷ [])) rm (omega arith) sm)

  items-tie : (n : ℕ) → Tied n
  unfolding items_at items_into
  items-tie zero t i at seen room h se = run_none t i at seen
  items-tie (suc n) t i at seen room h se =
      rw (lt-leb (length t) i (omega arith), se) (step-tie n (items-tie n) t i at seen room h se (tied seen at))

module _ {A : Type 0} (key : A → List ℕ) (At : ℕ → A → Type 0) (size : A → ℕ) (lead : ℕ) (g : Kind) (s : List ℕ) (item : List A → ℕ → Read A)
    (tied : (seen : List A) (at : ℕ) → Ties (Spot s key At size lead at) (item seen at) (item_move g s (map key seen) at)) where
  group_of : (t : List ℕ) (from at most n : ℕ) → n ≤ most → {r : Read (List A)} {m : Ran} → Runs At size lead t from (at + 1) [] n r m → Group At size lead t from at most r m
  group_of t from at most n h (run-to new l lies) = group-to new (omega arith) lies
  group_of t from at most n h run-no = group-no

  group-counted : (t : List ℕ) (from at most : ℕ) → from + most ≤ length t → {r : Read ℕ} {m : Moved} → Ties (λ v p n. (v ≡ n) × (p ≡ at + 1) × (n ≤ most)) r m
      → Group At size lead t from at most (and_then r (λ n p. items_at item n [] p)) (on_move m t (λ n p. items_into g s from n from t p))
  group-counted t from at most room tie-no = group-no
  group-counted t from at most room (tie-to {a = n} (ve, pe, h)) =
      rw (ve, pe) (group_of t from at most n h (items-tie key At size lead g s item tied from n t from (at + 1) [] (omega arith) (omega arith) (seen_none s t from)))

  pub group-tie : (least most : ℕ) → least ≡ least_count g → most ≡ most_count g → (t : List ℕ) (from at : ℕ) → from + most ≤ length t
      → Group At size lead t from at most (group_at s least most item at) (group_into g s t from at)
  unfolding group_at group_into
  group-tie least most le me t from at room = rw (← le, ← me) (group-counted t from at most room (count-tie s least most at))

module _ (s : List ℕ) where
  values-tied : (seen : List (List ℕ)) (at : ℕ) → Ties (Spot s itself (StringAt s) string_size 2 at) (value_at s seen at) (item_move Values s (map itself seen) at)
  unfolding item_move
  values-tied seen at = rw (map-itself seen) (value-tie s seen at)

  requesters-tied : (seen : List (List ℕ)) (at : ℕ) → Ties (Spot s itself (StringAt s) string_size 2 at) (requester_at s seen at) (item_move Requesters s (map itself seen) at)
  unfolding item_move
  requesters-tied seen at = requester-tie s seen at

  attributes-tied : (seen : List Attribute) (at : ℕ) → Ties (Spot s name_of (AttributeAt s) attribute_size 2 at) (attribute_at s seen at) (item_move Attributes s (map name_of seen) at)
  unfolding item_move
  attributes-tied seen at = attribute-tie s seen at

  assertions-tied : (seen : List Supplied) (at : ℕ) → Ties (Spot s text_of (AssertionAt s) assertion_size 3 at) (assertion_at s seen at) (item_move Assertions s (map text_of seen) at)
  unfolding item_move
  assertions-tied seen at = assertion-tie s seen at

module _ (s t : List ℕ) (room : most_items ≤ length t) (v r : List (List ℕ)) (few-v : length v ≤ most_values) (few-r : length r ≤ most_requesters)
    (lie-v : Lie (StringAt s) (places_from string_size 2 2 v) v)
    (lie-r : Lie (StringAt s) (places_from string_size 2 (requesters_start (record { values = v; requesters = r; attributes = []; assertions = [] })) r) r) where
  abbrev made : List Attribute → List Supplied → Query
  made a c = record { values = v; requesters = r; attributes = a; assertions = c }

  abbrev first_two : List ℕ
  first_two = places_from string_size 2 2 v ++ places_from string_size 2 (requesters_start (made [] [])) r

  two-length : length first_two ≡ length v + length r
  two-length = length-append (places_from string_size 2 2 v) (places_from string_size 2 (requesters_start (made [] [])) r)
      ∙ cc (places-length string_size 2 2 v, places-length string_size 2 (requesters_start (made [] [])) r)

  module _ (a : List Attribute) (few-a : length a ≤ most_attributes)
      (lie-a : Lie (AttributeAt s) (places_from attribute_size 2 (attributes_start (made [] [])) a) a) where
    abbrev first_three : List ℕ
    first_three = first_two ++ places_from attribute_size 2 (attributes_start (made [] [])) a

    three-length : length first_three ≡ length v + length r + length a
    three-length = length-append first_two (places_from attribute_size 2 (attributes_start (made [] [])) a)
        ∙ cc (two-length, places-length attribute_size 2 (attributes_start (made [] [])) a)

    abbrev last_at : ℕ
    last_at = end_from attribute_size 2 (attributes_start (made [] [])) a

    whole-last : {x : Read (List Supplied)} {m : Ran} → Group (AssertionAt s) assertion_size 3 (put t 0 first_three) (length v + length r + length a) last_at most_assertions x m
        → Whole s t (ended s (and_then x (λ c u. got (made a c) u)))
        (on_both (on_ran m (λ w q y. both (Paired (length v + length r + length a) w (cursor q)) y))
        (λ y z p u. pick (ltb p (length s)) (told (Refused 3 p) u) (told (Accepted (length v) (length v + length r) y z) u)))
    unfolding group_ends places assertions_start attributes_start requesters_start
    whole-last group-no = whole-no
    whole-last (group-to c h lie-c) =
        let e : put (put t 0 first_three) (length v + length r + length a) (places_from assertion_size 3 (last_at + 1) c) ≡ put t 0 (first_three ++ places_from assertion_size 3 (last_at + 1) c)
        = put_next t first_three (places_from assertion_size 3 (last_at + 1) c) (length v + length r + length a) three-length in
        let l : length (first_three ++ places_from assertion_size 3 (last_at + 1) c) ≡ length v + length r + length a + length c
        = length-append first_three (places_from assertion_size 3 (last_at + 1) c) ∙ cc (three-length, places-length assertion_size 3 (last_at + 1) c) in
        split (ltb (end_from assertion_size 3 (last_at + 1) c) (length s)) (λ f. rw f whole-no) (λ f. rw (f, e) (whole_to (made a c) (omega arith) (record { values = lie-v; requesters = lie-r; attributes = lie-a; assertions = lie-c })))

  abbrev read_last : List Attribute → ℕ → Read Query
  read_last a p = and_then (group_at s least_assertions most_assertions (assertion_at s) p) (λ c u. got (made a c) u)

  abbrev end_last : ℕ → ℕ → ℕ → List ℕ → Told
  end_last y z p u = pick (ltb p (length s)) (told (Refused 3 p) u) (told (Accepted (length v) (length v + length r) y z) u)

  abbrev third_at : ℕ
  third_at = end_from string_size 2 (requesters_start (made [] [])) r

  third-room : (a : List Attribute) (h : length a ≤ most_attributes) (lie-a : Lie (AttributeAt s) (places_from attribute_size 2 (attributes_start (made [] [])) a) a) → length v + length r + length a + most_assertions ≤ length (put t 0 (first_three a h lie-a))
  third-room a h la =
      let l : length (first_three a h la) ≡ length v + length r + length a = three-length a h la in
      let k : length (put t 0 (first_three a h la)) ≡ length t = put-length t 0 (first_three a h la) (omega arith) in
      omega arith

  whole-third : {x : Read (List Attribute)} {m : Ran} → Group (AttributeAt s) attribute_size 2 (put t 0 first_two) (length v + length r) third_at most_attributes x m
      → Whole s t (ended s (and_then x (λ a p. read_last a p)))
      (on_both (on_ran m (λ w p u. on_ran (group_into Assertions s u w p) (λ z q y. both (Paired w z (cursor q)) y))) (λ y z p u. end_last y z p u))
  unfolding attributes_start by_group
  whole-third group-no = whole-no
  whole-third (group-to a h la) =
      let e : put (put t 0 first_two) (length v + length r) (places_from attribute_size 2 (third_at + 1) a) ≡ put t 0 (first_three a h la)
      = put_next t first_two (places_from attribute_size 2 (third_at + 1) a) (length v + length r) two-length in
      rw e
      (whole-last a h la
      (group-tie text_of (AssertionAt s) assertion_size 3 Assertions s (assertion_at s) (assertions-tied s) least_assertions most_assertions refl refl (put t 0 (first_three a h la))
      (length v + length r + length a) (last_at a h la) (third-room a h la)))

module _ (s t : List ℕ) (room : most_items ≤ length t) where
  whole-second : (v : List (List ℕ)) → length v ≤ most_values → Lie (StringAt s) (places_from string_size 2 2 v) v → {x : Read (List (List ℕ))} {m : Ran}
      → Group (StringAt s) string_size 2 (put t 0 (places_from string_size 2 2 v)) (length v) (end_from string_size 2 2 v) most_requesters x m
      → Whole s t (ended s (and_then x (λ r q. and_then (group_at s least_attributes most_attributes (attribute_at s) q) (λ a p.
      and_then (group_at s least_assertions most_assertions (assertion_at s) p) (λ c u. got (record { values = v; requesters = r; attributes = a; assertions = c }) u)))))
      (on_both (on_ran m (λ w q y. both (Paired (length v) w (cursor q)) y)) (λ y w p u. rest_into s u y w p))
  unfolding rest_into groups_into requesters_start by_group
  whole-second v h lv group-no = whole-no
  whole-second v h lv (group-to r k lr) =
      let e : put (put t 0 (places_from string_size 2 2 v)) (length v) (places_from string_size 2 (end_from string_size 2 2 v + 1) r) ≡ put t 0 (first_two s t room v r h k lv lr)
      = put_next t (places_from string_size 2 2 v) (places_from string_size 2 (end_from string_size 2 2 v + 1) r) (length v) (places-length string_size 2 2 v) in
      let l : length (first_two s t room v r h k lv lr) ≡ length v + length r = two-length s t room v r h k lv lr in
      let n : length (put t 0 (first_two s t room v r h k lv lr)) ≡ length t = put-length t 0 (first_two s t room v r h k lv lr) (omega arith) in
      rw e
      (whole-third s t room v r h k lv lr
      (group-tie name_of (AttributeAt s) attribute_size 2 Attributes s (attribute_at s) (attributes-tied s) least_attributes most_attributes refl refl (put t 0 (first_two s t room v r h k lv lr))
      (length v + length r) (third_at s t room v r h k lv lr) (omega arith)))

  whole-first : {x : Read (List (List ℕ))} {m : Ran} → Group (StringAt s) string_size 2 t 0 1 most_values x m
      → Whole s t (ended s (and_then x (λ v p. and_then (group_at s least_requesters most_requesters (requester_at s) p) (λ r q.
      and_then (group_at s least_attributes most_attributes (attribute_at s) q) (λ a t.
      and_then (group_at s least_assertions most_assertions (assertion_at s) t) (λ c u. got (record { values = v; requesters = r; attributes = a; assertions = c }) u))))))
      (on_both (on_ran m (λ v p u. on_ran (group_into Requesters s u v p) (λ w q x. both (Paired v w (cursor q)) x))) (λ y w p u. rest_into s u y w p))
  unfolding by_group
  whole-first group-no = whole-no
  whole-first (group-to v h lv) =
      let l : length (places_from string_size 2 2 v) ≡ length v = places-length string_size 2 2 v in
      let n : length (put t 0 (places_from string_size 2 2 v)) ≡ length t = put-length t 0 (places_from string_size 2 2 v) (omega arith) in
      let z : 0 + length v ≡ length v = omega arith in
      rw z
      (whole-second v h lv
      (group-tie itself (StringAt s) string_size 2 Requesters s (requester_at s) (requesters-tied s) least_requesters most_requesters refl refl (put t 0 (places_from string_size 2 2 v))
      (length v) (end_from string_size 2 2 v) (omega arith)))

  -- the working definition is what the record says
  pub table-tie : Whole s t (read_record s) (table_into s t)
  unfolding read_record table_into query_at groups_into by_group
  table-tie =
      split (ltb most_record (length s)) (λ e. rw e whole-no)
      (λ e. split (eqb (length s) 0) (λ f. rw (e, f) whole-no)
      (λ f. split (eqb (get_or s 0 0) 1)
      (λ g. rw (e, f, g) (whole-first (group-tie itself (StringAt s) string_size 2 Values s (value_at s) (values-tied s) least_values most_values refl refl t 0 1 (omega arith))))
      (λ g. rw (e, f, g) whole-no)))

pub tables-lie : (s : List ℕ) (q : Query) → read_record s ≡ accepted q → Lies s q
tables-lie s q e = lies-of (table-tie s (replicate most_items 0) (omega (arith, length-replicate {A = ℕ} most_items 0))) q e
