-- The round trips: an encoded valid query is read back, and what is read is valid and re-encodes to the same bytes. Assumes nothing.
use Rattle.std.specs.Prelude.{◌≡◌, ltb, leb, drop}
use Rattle.std.proofs.Math.Path.{refl, sym, ap, subst}
use Rattle.std.proofs.Common.{◌∙◌, arith}
use mathlib.Core.List.{List, [], ◌∷◌, ◌++◌, map, append_assoc, append-nil}
use Prim.Native.Nat.{ℕ, zero, suc, ◌+◌, ◌*◌, ◌/◌, ◌%◌, ◌<◌, ◌≤◌}
use Rattle.std.proofs.Math.ListN.{length, get_or, take}
use borrow.Author.Tests.{le-ltb, lt-leb, ne_eqb, ltb-false, leb-false}
use Rattle.text.specs.Choice.{pick}
use Rattle.text.specs.Scan.{run}
use Rattle.text.specs.Class.{in_class, plain}
use Rattle.text.specs.Counted.{part, pair_at}
use Rattle.limits.specs.Limits.{most_record, least_values, most_values, least_value, most_value, least_requesters, most_requesters, least_requester, most_requester, least_attributes, most_attributes, least_name, most_name, least_setting, most_setting, least_assertions, most_assertions, least_text, most_text, most_standing}
use Rattle.record.specs.Query.{Query, Attribute, Supplied}
use Rattle.record.specs.Read.{Read, got, bad, and_then, accepted}
use Rattle.record.specs.Field.{within, count_at, length_at, content_at, field_at, name_front}
use Rattle.record.specs.Item.{plain_at, value_at, requester_at, attribute_name_at, attribute_at, assertion_at, items_at, group_at}
use Rattle.record.specs.Record.{query_at, read_record}
use Rattle.record.specs.Encode.{string_bytes, attribute_bytes, assertion_bytes, items_bytes, group_bytes, encode}
use Rattle.record.specs.Valid.{Between, PlainOk, ValueOk, RequesterOk, NameOk, AttributeOk, SuppliedOk, Each, each[], each∷, GroupOk, Valid}
use Rattle.record.specs.Stands.{Stands, stands-nothing, stands-join, stands-left, stands-right, stands-byte, byte_at, pair-at, stands-part, part_at, stands-all, all_of}
use Rattle.record.specs.RoundTrip.{Bytes, Held, Long, Means, Then, Whole, askable-filter, both-filter, content-got, distinct_filter, filter-means, got-item, length_got, moved, permitted-filter, pick-got, take-size, then-got, whole_of, within-got, within-is}

-- two bytes
module _ (s : List ℕ) (at : ℕ) where
  pair-stands : at + 2 ≤ length s → Stands s at (get_or s at 0 ∷ get_or s (at + 1) 0 ∷ []) (at + 2)
  pair-stands h =
      let z : at + 1 + 1 ≡ at + 2 = omega arith in
      let st : Stands s at (get_or s at 0 ∷ get_or s (at + 1) 0 ∷ []) (at + 1 + 1) = stands-join (stands-byte s at (omega arith)) (stands-byte s (at + 1) (omega arith)) in
      rw z at st

module _ (s : List ℕ) (least most : ℕ) where
  string-stands : Bytes s → (at n q p : ℕ) (b : List ℕ) → Long s least most at n q → Held s n q b p → Stands s at (string_bytes b) p × Between least most (length b)
  unfolding string_bytes pair_at
  string-stands bytes at n q p b long held =
      let qe : q ≡ at + 2 = long.place in
      let he : b ≡ take n (drop q s) = held.is in
      let fit : q + n ≤ length s = held.fits in
      let l : length b ≡ n = rw he (take-size s q n fit) in
      let ne : n ≡ get_or s at 0 * 256 + get_or s (at + 1) 0 = long.is in
      let hi : get_or s at 0 ≡ length b / 256 = omega (arith, bytes (at + 1)) in
      let lo : get_or s (at + 1) 0 ≡ length b % 256 = omega (arith, bytes (at + 1)) in
      let st₁ : Stands s at (length b / 256 ∷ length b % 256 ∷ []) (at + 2) = rw (hi, lo) at (pair-stands s at long.fits) in
      let st₂ : Stands s q b p = rw (he, held.place) (stands-part s q n fit) in
      (stands-join st₁ (rw qe at st₂), rw l long.range)

  field-gives : Bytes s → (at : ℕ) (b : List ℕ) (p : ℕ) → field_at s least most at ≡ got b p → Stands s at (string_bytes b) p × Between least most (length b)
  unfolding field_at
  field-gives bytes at b p e =
      let t : Then (length_at s least most at) (λ n q. content_at s n q) b p = then-got (length_at s least most at) (λ n q. content_at s n q) e in
      string-stands bytes at t.item t.place p b (length_got s least most at t.item t.place t.first) (content-got s t.item t.place b p t.next)

  field-takes : (at : ℕ) (b : List ℕ) (p : ℕ) → Stands s at (string_bytes b) p → Between least most (length b) → field_at s least most at ≡ got b p
  unfolding field_at length_at content_at part string_bytes
  field-takes at b p st ok =
      let st₁ : Stands s at (length b / 256 ∷ length b % 256 ∷ []) (at + 2) = stands-left (length b / 256 ∷ length b % 256 ∷ []) b st in
      let st₂ : Stands s (at + 2) b p = stands-right (length b / 256 ∷ length b % 256 ∷ []) b st in
      let n : pair_at s at ≡ length b = pair-at (length b) st₁ in
      let pe : p ≡ at + 2 + length b = st₂.behind in
      rw (
        le-ltb (length s) (at + 2) st₁.inside,
        n,
        within-is least most (length b) (at + 2) 5 at ok,
        le-ltb (length s) (at + 2 + length b) (omega (arith, st₂.inside)),
        part_at st₂,
        ← pe,
      )

  field-means : Means s (field_at s least most) string_bytes (λ b. Between least most (length b))
  field-means = record { gives = field-gives; takes = field-takes }

module _ (s : List ℕ) where
  plain-means : (least most : ℕ) → Means s (plain_at s least most) string_bytes (PlainOk least most)
  unfolding plain_at
  plain-means least most = filter-means (field-means s least most) (permitted-filter (run (in_class plain)))

  value-means : (seen : List (List ℕ)) → Means s (value_at s seen) string_bytes (ValueOk seen)
  unfolding value_at
  value-means seen = filter-means (plain-means least_value most_value) (distinct_filter seen)

  requester-means : (seen : List (List ℕ)) → Means s (requester_at s seen) string_bytes (RequesterOk seen)
  unfolding requester_at
  requester-means seen = filter-means (plain-means least_requester most_requester) askable-filter

  name-means : (seen : List (List ℕ)) → Means s (attribute_name_at s seen) string_bytes (NameOk seen)
  unfolding attribute_name_at
  name-means seen = filter-means (field-means s least_name most_name) (both-filter (permitted-filter name_front) (distinct_filter seen))

  abbrev setting : List ℕ → List ℕ → Attribute
  setting n v = record { name = n; value = v }

  attribute-gives : Bytes s → (seen : List Attribute) (at : ℕ) (a : Attribute) (p : ℕ) → attribute_at s seen at ≡ got a p → Stands s at (attribute_bytes a) p × AttributeOk seen a
  unfolding attribute_at attribute_bytes
  attribute-gives bytes seen at a p e =
      let names : List (List ℕ) = map (λ b. b.name) seen in
      let t : Then (attribute_name_at s names at) (λ n q. and_then (plain_at s least_setting most_setting q) (λ v r. got (setting n v) r)) a p
      = then-got (attribute_name_at s names at) (λ n q. and_then (plain_at s least_setting most_setting q) (λ v r. got (setting n v) r)) e in
      let u : Then (plain_at s least_setting most_setting t.place) (λ v r. got (setting t.item v) r) a p
      = then-got (plain_at s least_setting most_setting t.place) (λ v r. got (setting t.item v) r) t.next in
      let (ae, pe) = got-item u.next in
      let (st₁, ok₁) = (name-means names).gives bytes at t.item t.place t.first in
      let (st₂, ok₂) = (plain-means least_setting most_setting).gives bytes t.place u.item u.place u.first in
      moved s at attribute_bytes (AttributeOk seen) (stands-join st₁ st₂, (ok₁, ok₂)) ae pe

  attribute-takes : (seen : List Attribute) (at : ℕ) (a : Attribute) (p : ℕ) → Stands s at (attribute_bytes a) p → AttributeOk seen a → attribute_at s seen at ≡ got a p
  unfolding attribute_at attribute_bytes
  attribute-takes seen at a p st ok =
      let st₁ : Stands s at (string_bytes a.name) (at + length (string_bytes a.name)) = stands-left (string_bytes a.name) (string_bytes a.value) st in
      let st₂ : Stands s (at + length (string_bytes a.name)) (string_bytes a.value) p = stands-right (string_bytes a.name) (string_bytes a.value) st in
      rw (
        (name-means (map (λ b. b.name) seen)).takes at a.name (at + length (string_bytes a.name)) st₁ ok.0,
        (plain-means least_setting most_setting).takes (at + length (string_bytes a.name)) a.value p st₂ ok.1,
      )

  assertion-gives : Bytes s → (seen : List Supplied) (at : ℕ) (a : Supplied) (p : ℕ) → assertion_at s seen at ≡ got a p → Stands s at (assertion_bytes a) p × SuppliedOk seen a
  unfolding assertion_at assertion_bytes
  assertion-gives bytes seen at a p e =
      let k : List ℕ → ℕ → Read Supplied = λ t q. got (record { standing = get_or s at 0; text = t }) q in
      let (f, e₁) = pick-got (leb (length s) at) 3 at (pick (ltb most_standing (get_or s at 0)) (bad 8 at) (and_then (field_at s least_text most_text (at + 1)) k)) e in
      let (g, e₂) = pick-got (ltb most_standing (get_or s at 0)) 8 at (and_then (field_at s least_text most_text (at + 1)) k) e₁ in
      let t : Then (field_at s least_text most_text (at + 1)) k a p = then-got (field_at s least_text most_text (at + 1)) k e₂ in
      let (ae, pe) = got-item t.next in
      let (st₂, ok₂) = (field-means s least_text most_text).gives bytes (at + 1) t.item t.place t.first in
      moved s at assertion_bytes (SuppliedOk seen)
      (stands-join (stands-byte s at (leb-false (length s) at f)) st₂, (ltb-false most_standing (get_or s at 0) g, ok₂)) ae pe

  assertion-takes : (seen : List Supplied) (at : ℕ) (a : Supplied) (p : ℕ) → Stands s at (assertion_bytes a) p → SuppliedOk seen a → assertion_at s seen at ≡ got a p
  unfolding assertion_at assertion_bytes
  assertion-takes seen at a p st ok =
      let st₁ : Stands s at (a.standing ∷ []) (at + 1) = stands-left (a.standing ∷ []) (string_bytes a.text) st in
      let st₂ : Stands s (at + 1) (string_bytes a.text) p = stands-right (a.standing ∷ []) (string_bytes a.text) st in
      let b : get_or s at 0 ≡ a.standing = byte_at st₁ in
      rw (
        lt-leb (length s) at (omega (arith, st₁.inside)),
        b,
        le-ltb most_standing a.standing ok.0,
        (field-means s least_text most_text).takes (at + 1) a.text p st₂ ok.1,
      )

-- items one behind the other
module _ {A : Type 0} (s : List ℕ) (item : List A → ℕ → Read A) (enc : A → List ℕ) (Ok : List A → A → Type 0)
    (means : (seen : List A) → Means s (item seen) enc (Ok seen)) where
  record Items (n : ℕ) (seen : List A) (at : ℕ) (l : List A) (p : ℕ) : Type 0 where
    new : List A
    is : l ≡ seen ++ new
    count : length new ≡ n
    stands : Stands s at (items_bytes enc new) p
    each : Each Ok seen new

  items-gives : Bytes s → (n : ℕ) (seen : List A) (at : ℕ) (l : List A) (p : ℕ) → at ≤ length s → items_at item n seen at ≡ got l p → Items n seen at l p
  unfolding items_at items_bytes
  items-gives bytes zero seen at l p h e =
      let (le, pe) = got-item e in
      record { new = []; is = sym le ∙ sym (append-nil seen); count = refl; stands = subst (λ (r : ℕ). Stands s at [] r) pe (stands-nothing s at h); each = each[] }
  items-gives bytes (suc n) seen at l p h e =
      let t : Then (item seen at) (λ a q. items_at item n (seen ++ (a ∷ [])) q) l p = then-got (item seen at) (λ a q. items_at item n (seen ++ (a ∷ [])) q) e in
      let (st, ok) = (means seen).gives bytes at t.item t.place t.first in
      let r : Items n (seen ++ (t.item ∷ [])) t.place l p = items-gives bytes n (seen ++ (t.item ∷ [])) t.place l p st.inside t.next in
      record {
        new = t.item ∷ r.new;
        is = r.is ∙ append_assoc seen (t.item ∷ []) r.new;
        count = ap suc r.count;
        stands = stands-join st r.stands;
        each = each∷ ok r.each;
      }

  items-takes : (new seen : List A) (at p : ℕ) → Stands s at (items_bytes enc new) p → Each Ok seen new → items_at item (length new) seen at ≡ got (seen ++ new) p
  unfolding items_at items_bytes
  items-takes [] seen at p st each[] = let z : p ≡ at = omega (arith, st.behind) in rw (z, append-nil seen)
  items-takes (a ∷ new) seen at p st (each∷ ok more) =
      rw ((means seen).takes at a (at + length (enc a)) (stands-left (enc a) (items_bytes enc new) st) ok)
      (items-takes new (seen ++ (a ∷ [])) (at + length (enc a)) p (stands-right (enc a) (items_bytes enc new) st) more
      ∙ ap (λ (l : List A). got l p) (append_assoc seen (a ∷ []) new))

  module _ (least most : ℕ) where
    counted-items : (at n q : ℕ) (l : List A) (p : ℕ) → at < length s → get_or s at 0 ≡ n → at + 1 ≡ q → Between least most n → Items n [] q l p
        → Stands s at (group_bytes enc l) p × GroupOk least most Ok l
    unfolding group_bytes
    counted-items at n q l p h ne qe rng r =
        let c : get_or s at 0 ≡ length r.new = ne ∙ sym r.count in
        let st₁ : Stands s at (length r.new ∷ []) (at + 1) = rw c at (stands-byte s at h) in
        let st₂ : Stands s (at + 1) (items_bytes enc r.new) p = rw qe r.stands in
        let m : n ≡ length r.new = sym r.count in
        moved s at (group_bytes enc) (GroupOk least most Ok) (stands-join st₁ st₂, (rw m at rng, r.each)) (sym r.is) refl

    group-gives : Bytes s → (at : ℕ) (l : List A) (p : ℕ) → group_at s least most item at ≡ got l p → Stands s at (group_bytes enc l) p × GroupOk least most Ok l
    unfolding group_at count_at
    group-gives bytes at l p e =
        let t : Then (count_at s least most at) (λ n q. items_at item n [] q) l p = then-got (count_at s least most at) (λ n q. items_at item n [] q) e in
        let (f, e₁) = pick-got (leb (length s) at) 3 at (within least most (get_or s at 0) (at + 1) 4 at) t.first in
        let (rng, (ne, qe)) = within-got least most (get_or s at 0) (at + 1) 4 at t.item t.place e₁ in
        let h : at < length s = leb-false (length s) at f in
        let r : Items t.item [] t.place l p = items-gives bytes t.item [] t.place l p (omega (arith, qe)) t.next in
        counted-items at t.item t.place l p h ne qe (rw ne at rng) r

    group-takes : (at : ℕ) (l : List A) (p : ℕ) → Stands s at (group_bytes enc l) p → GroupOk least most Ok l → group_at s least most item at ≡ got l p
    unfolding group_at count_at group_bytes
    group-takes at l p st ok =
        let st₁ : Stands s at (length l ∷ []) (at + 1) = stands-left (length l ∷ []) (items_bytes enc l) st in
        let st₂ : Stands s (at + 1) (items_bytes enc l) p = stands-right (length l ∷ []) (items_bytes enc l) st in
        rw (lt-leb (length s) at (omega (arith, st₁.inside)), byte_at st₁, within-is least most (length l) (at + 1) 4 at ok.0) (items-takes l [] (at + 1) p st₂ ok.1)

    group-means : Means s (group_at s least most item) (group_bytes enc) (GroupOk least most Ok)
    group-means = record { gives = group-gives; takes = group-takes }

-- the whole record
module _ (s : List ℕ) where
  values-means : Means s (group_at s least_values most_values (value_at s)) (group_bytes string_bytes) (GroupOk least_values most_values ValueOk)
  values-means = group-means s (value_at s) string_bytes ValueOk (value-means s) least_values most_values

  requesters-means : Means s (group_at s least_requesters most_requesters (requester_at s)) (group_bytes string_bytes) (GroupOk least_requesters most_requesters RequesterOk)
  requesters-means = group-means s (requester_at s) string_bytes RequesterOk (requester-means s) least_requesters most_requesters

  attribute-means : (seen : List Attribute) → Means s (attribute_at s seen) attribute_bytes (AttributeOk seen)
  attribute-means seen = record { gives = λ bytes. attribute-gives s bytes seen; takes = attribute-takes s seen }

  attributes-means : Means s (group_at s least_attributes most_attributes (attribute_at s)) (group_bytes attribute_bytes) (GroupOk least_attributes most_attributes AttributeOk)
  attributes-means = group-means s (attribute_at s) attribute_bytes AttributeOk attribute-means least_attributes most_attributes

  assertion-means : (seen : List Supplied) → Means s (assertion_at s seen) assertion_bytes (SuppliedOk seen)
  assertion-means seen = record { gives = λ bytes. assertion-gives s bytes seen; takes = assertion-takes s seen }

  assertions-means : Means s (group_at s least_assertions most_assertions (assertion_at s)) (group_bytes assertion_bytes) (GroupOk least_assertions most_assertions SuppliedOk)
  assertions-means = group-means s (assertion_at s) assertion_bytes SuppliedOk assertion-means least_assertions most_assertions

  -- the four groups of a query, and what each must be
  abbrev groups_bytes : Query → List ℕ
  groups_bytes q =
      group_bytes string_bytes q.values ++ (group_bytes string_bytes q.requesters ++ (group_bytes attribute_bytes q.attributes ++ group_bytes assertion_bytes q.assertions))

  abbrev GroupsOk : Query → Type 0
  GroupsOk q =
      GroupOk least_values most_values ValueOk q.values × (GroupOk least_requesters most_requesters RequesterOk q.requesters
      × (GroupOk least_attributes most_attributes AttributeOk q.attributes × GroupOk least_assertions most_assertions SuppliedOk q.assertions))

  query-gives : Bytes s → (at : ℕ) (q : Query) (p : ℕ) → query_at s at ≡ got q p → Stands s at (groups_bytes q) p × GroupsOk q
  unfolding query_at
  query-gives bytes at q p e =
      let t₁ = then-got (group_at s least_values most_values (value_at s) at) _ e in
      let t₂ = then-got (group_at s least_requesters most_requesters (requester_at s) t₁.place) _ t₁.next in
      let t₃ = then-got (group_at s least_attributes most_attributes (attribute_at s) t₂.place) _ t₂.next in
      let t₄ = then-got (group_at s least_assertions most_assertions (assertion_at s) t₃.place) _ t₃.next in
      let (st₁, ok₁) = values-means.gives bytes at t₁.item t₁.place t₁.first in
      let (st₂, ok₂) = requesters-means.gives bytes t₁.place t₂.item t₂.place t₂.first in
      let (st₃, ok₃) = attributes-means.gives bytes t₂.place t₃.item t₃.place t₃.first in
      let (st₄, ok₄) = assertions-means.gives bytes t₃.place t₄.item t₄.place t₄.first in
      let (qe, pe) = got-item t₄.next in
      moved s at groups_bytes GroupsOk (stands-join st₁ (stands-join st₂ (stands-join st₃ st₄)), (ok₁, (ok₂, (ok₃, ok₄)))) qe pe

  query-takes : (at : ℕ) (q : Query) (p : ℕ) → Stands s at (groups_bytes q) p → GroupsOk q → query_at s at ≡ got q p
  unfolding query_at
  query-takes at q p st ok =
      let g₁ : List ℕ = group_bytes string_bytes q.values in
      let g₂ : List ℕ = group_bytes string_bytes q.requesters in
      let g₃ : List ℕ = group_bytes attribute_bytes q.attributes in
      let g₄ : List ℕ = group_bytes assertion_bytes q.assertions in
      let r₁ : Stands s (at + length g₁) (g₂ ++ (g₃ ++ g₄)) p = stands-right g₁ (g₂ ++ (g₃ ++ g₄)) st in
      let r₂ : Stands s (at + length g₁ + length g₂) (g₃ ++ g₄) p = stands-right g₂ (g₃ ++ g₄) r₁ in
      rw (
        values-means.takes at q.values (at + length g₁) (stands-left g₁ (g₂ ++ (g₃ ++ g₄)) st) ok.0,
        requesters-means.takes (at + length g₁) q.requesters (at + length g₁ + length g₂) (stands-left g₂ (g₃ ++ g₄) r₁) ok.1.0,
        attributes-means.takes (at + length g₁ + length g₂) q.attributes (at + length g₁ + length g₂ + length g₃) (stands-left g₃ g₄ r₂) ok.1.1.0,
        assertions-means.takes (at + length g₁ + length g₂ + length g₃) q.assertions p (stands-right g₃ g₄ r₂) ok.1.1.1,
      )

-- what is read is valid, and re-encodes to the same bytes
pub read_back : (s : List ℕ) → Bytes s → (q : Query) → read_record s ≡ accepted q → Valid q × (encode q ≡ s)
unfolding encode
read_back s bytes q e =
    let w : Whole s q = whole_of s q e in
    let (st, ok) = query-gives s bytes 1 q w.place w.says in
    let is : encode q ≡ s = all_of (stands-join w.version st) w.ends in
    (record { values = ok.0; requesters = ok.1.0; attributes = ok.1.1.0; assertions = ok.1.1.1; short = subst (λ (x : List ℕ). length x ≤ most_record) (sym is) w.short }, is)

-- reading an encoded valid query gives it back
pub read-encoded : (q : Query) → Valid q → read_record (encode q) ≡ accepted q
unfolding read_record encode
read-encoded q ok =
    let s : List ℕ = encode q in
    let all : Stands s 0 s (length s) = stands-all s in
    let rest : Stands s 1 (groups_bytes s q) (length s) = stands-right (1 ∷ []) (groups_bytes s q) all in
    let says : query_at s 1 ≡ got q (length s) = query-takes s 1 q (length s) rest (ok.values, (ok.requesters, (ok.attributes, ok.assertions))) in
    let some : length s ≡ 0 → ⊥ = λ z. omega (arith, rest.behind) in
    rw (le-ltb most_record (length s) ok.short, ne_eqb (length s) 0 some, says, le-ltb (length s) (length s) (omega arith))
