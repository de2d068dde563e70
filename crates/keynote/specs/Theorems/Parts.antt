-- The table of places that reading an accepted query leaves: its four parts are the places of the four groups. Assumes nothing.
use Rattle.std.specs.Prelude.{◌≡◌, refl, List, [], ◌∷◌, ◌++◌, ℕ, suc, ◌+◌, ◌-◌, ◌≤◌, length, take, drop, Ok, Err}
use Rattle.std.proofs.Common.{sym, ap, ◌∙◌, append_assoc, arith, length-append, take_at, drop_at}
use Rattle.limits.specs.Limits.{most_items}
use Rattle.text.specs.Copy.{put}
use Rattle.text.specs.CopyLaws.{put-length}
use Rattle.record.specs.Query.{Query}
use Rattle.record.specs.Read.{Verdict, accepted, refused}
use Rattle.record.specs.Record.{read_record}
use Rattle.record.specs.Places.{string_size, attribute_size, assertion_size, places_from, requesters_start, attributes_start, assertions_start, places}
use Rattle.record.specs.Reading.{Reading, Accepted, told, group_ends, leaves, read_into}
use Rattle.record.specs.Valid.{Valid}
use Rattle.record.specs.RoundTrip.{Bytes}
use Rattle.record.proofs.Laws.RoundTrip.{read_back}
use Rattle.record.specs.Refusal.{Refused}
use Rattle.record.specs.declared.Ends.{Ends}
use Rattle.record.specs.declared.Refusal.{Refusal}
use Rattle.keynote.specs.Working.Filled.{values_at, requesters_at, attributes_at, assertions_at}

pub places-length : {A : Type 0} (size : A → ℕ) (lead at : ℕ) (l : List A) → length (places_from size lead at l) ≡ length l
unfolding places_from
places-length size lead at [] = refl
places-length size lead at (a ∷ l) = ap suc (places-length size lead (at + size a) l)

-- four lists one behind the other, cut where each ends
record Cut (a b c d t : List ℕ) (i j k m : ℕ) : Type 0 where
  first : take i t ≡ a
  second : take (j - i) (drop i t) ≡ b
  third : take (k - j) (drop j t) ≡ c
  fourth : take (m - k) (drop k t) ≡ d

piece : (x y z t : List ℕ) (i n : ℕ) → t ≡ x ++ (y ++ z) → length x ≡ i → length y ≡ n → take n (drop i t) ≡ y
piece x y z t i n e hx hy = rw (e, drop_at x (y ++ z) i hx) (take_at y z n hy)

cut : (a b c d z t : List ℕ) (i j k m : ℕ) → t ≡ a ++ (b ++ (c ++ (d ++ z))) → i ≡ length a → j ≡ i + length b → k ≡ j + length c → m ≡ k + length d → Cut a b c d t i j k m
cut a b c d z t i j k m e ei ej ek em =
    let ab : t ≡ (a ++ b) ++ (c ++ (d ++ z)) = e ∙ sym (append_assoc a b (c ++ (d ++ z))) in
    let abc : t ≡ ((a ++ b) ++ c) ++ (d ++ z) = ab ∙ sym (append_assoc (a ++ b) c (d ++ z)) in
    let l : length (a ++ b) ≡ length a + length b = length-append a b in
    let n : length ((a ++ b) ++ c) ≡ length (a ++ b) + length c = length-append (a ++ b) c in
    record {
      first = rw e (take_at a (b ++ (c ++ (d ++ z))) i (sym ei));
      second = piece a b (c ++ (d ++ z)) t i (j - i) e (sym ei) (omega (arith, ej));
      third = piece (a ++ b) c (d ++ z) t j (k - j) ab (omega (arith, l, ei, ej)) (omega (arith, ek));
      fourth = piece ((a ++ b) ++ c) d z t k (m - k) abc (omega (arith, l, n, ei, ej, ek)) (omega (arith, em));
    }

-- what an accepted query's reading tells: the ends of the four groups, in order and within the table, and the groups' places between them
pub record Parts (q : Query) (t table : List ℕ) (values requesters attributes assertions : ℕ) : Type 0 where
  pub values_end : values ≡ length q.values
  pub requesters_end : requesters ≡ values + length q.requesters
  pub attributes_end : attributes ≡ requesters + length q.attributes
  pub assertions_end : assertions ≡ attributes + length q.assertions
  pub long : length table ≡ length t
  pub fits : assertions ≤ length table
  pub values_front : take values table ≡ values_at q
  pub values_part : take (values - 0) (drop 0 table) ≡ values_at q
  pub requesters_part : take (requesters - values) (drop values table) ≡ requesters_at q
  pub attributes_part : take (attributes - requesters) (drop requesters table) ≡ attributes_at q
  pub assertions_part : take (assertions - attributes) (drop attributes table) ≡ assertions_at q

told_is : {r u : Reading} {t v : List ℕ} → told r t ≡ told u v → (r ≡ u) × (t ≡ v)
told_is e = (cc, cc)

-- an accepted query's reading and table
pub accepted-told : (s : List ℕ) (q : Query) (t table : List ℕ) (r : Reading) → read_record s ≡ accepted q → told r table ≡ read_into s t
    → (r ≡ group_ends q) × (table ≡ put t 0 (places q))
unfolding read_into leaves
accepted-told s q t table r e f = told_is (let z : told r table ≡ leaves (accepted q) t = rw e at f in z)

places-are : (q : Query) (t : List ℕ) → put t 0 (places q) ≡ values_at q ++ (requesters_at q ++ (attributes_at q ++ (assertions_at q ++ drop (0 + length (places q)) t)))
unfolding put places
places-are q t =
    let z : List ℕ = drop (0 + length (places q)) t in
    append_assoc (values_at q ++ requesters_at q ++ attributes_at q) (assertions_at q) z ∙ append_assoc (values_at q ++ requesters_at q) (attributes_at q) (assertions_at q ++ z)
    ∙ append_assoc (values_at q) (requesters_at q) (attributes_at q ++ (assertions_at q ++ z))

all-length : (q : Query) → length (places q) ≡ length q.values + length q.requesters + length q.attributes + length q.assertions
unfolding places
all-length q =
    let a = places-length string_size 2 2 q.values in
    let b = places-length string_size 2 (requesters_start q) q.requesters in
    let c = places-length attribute_size 2 (attributes_start q) q.attributes in
    let d = places-length assertion_size 3 (assertions_start q) q.assertions in
    omega (
      arith,
      a,
      b,
      c,
      d,
      length-append (values_at q ++ requesters_at q ++ attributes_at q) (assertions_at q),
      length-append (values_at q ++ requesters_at q) (attributes_at q),
      length-append (values_at q) (requesters_at q),
    )

accepted-is : {x y : Ends} → ◌≡◌ {A = Reading} (Ok x) (Ok y)
    → (x.values ≡ y.values) × ((x.requesters ≡ y.requesters) × ((x.attributes ≡ y.attributes) × (x.assertions ≡ y.assertions)))
accepted-is {x} {y} e =
    let z : x ≡ y = cc in
    (ap (λ (w : Ends). w.values) z, (ap (λ (w : Ends). w.requesters) z, (ap (λ (w : Ends). w.attributes) z, ap (λ (w : Ends). w.assertions) z)))

pub accepted-parts : (s : List ℕ) (q : Query) → Bytes s → read_record s ≡ accepted q → (t table : List ℕ) → most_items ≤ length t
    → (values requesters attributes assertions : ℕ) → told (Accepted values requesters attributes assertions) table ≡ read_into s t
    → Parts q t table values requesters attributes assertions
unfolding group_ends
accepted-parts s q bytes e t table room values requesters attributes assertions f =
    let w = accepted-told s q t table _ e f in
    let is : table ≡ put t 0 (places q) = w.1 in
    let ends = accepted-is w.0 in
    let v : Valid q = (read_back s bytes q e).0 in
    let ve : values ≡ length q.values = ends.0 in
    let re : requesters ≡ length q.values + length q.requesters = ends.1.0 in
    let ae : attributes ≡ length q.values + length q.requesters + length q.attributes = ends.1.1.0 in
    let ce : assertions ≡ length q.values + length q.requesters + length q.attributes + length q.assertions = ends.1.1.1 in
    let most : assertions ≤ most_items = omega (arith, ce, v.values.0.1, v.requesters.0.1, v.attributes.0.1, v.assertions.0.1) in
    let long : length table ≡ length t = ap length is ∙ put-length t 0 (places q) (omega (arith, all-length q, most, ce, room)) in
    let a = places-length string_size 2 2 q.values in
    let b = places-length string_size 2 (requesters_start q) q.requesters in
    let c = places-length attribute_size 2 (attributes_start q) q.attributes in
    let d = places-length assertion_size 3 (assertions_start q) q.assertions in
    let k = cut (values_at q) (requesters_at q) (attributes_at q) (assertions_at q) (drop (0 + length (places q)) t) table values requesters attributes assertions
    (is ∙ places-are q t) (omega (arith, ve, a)) (omega (arith, ve, re, b)) (omega (arith, re, ae, c)) (omega (arith, ae, ce, d)) in
    let zero : values - 0 ≡ values = omega arith in
    record {
      values_end = ve;
      requesters_end = omega (arith, ve, re);
      attributes_end = omega (arith, re, ae);
      assertions_end = omega (arith, ae, ce);
      long = long;
      fits = omega (arith, most, long, room);
      values_front = k.first;
      values_part = rw zero k.first;
      requesters_part = k.second;
      attributes_part = k.third;
      assertions_part = k.fourth;
    }

-- ---- what a reading says of the record

no-mix : {P : Type 0} {x : Ends} {y : Refusal} → ◌≡◌ {A = Reading} (Ok x) (Err y) → P
no-mix e = let z : ◌≡◌ {A = ℕ} 0 1 = cc in absurd (omega arith)

refused-is : {x y : Refusal} → ◌≡◌ {A = Reading} (Err x) (Err y) → (x.number ≡ y.number) × (x.at ≡ y.at)
refused-is {x} {y} e = let z : x ≡ y = cc in (ap (λ (w : Refusal). w.number) z, ap (λ (w : Refusal). w.at) z)

accepted-by : (w : Verdict) (t table : List ℕ) (v n a c : ℕ) → told (Accepted v n a c) table ≡ leaves w t → (q : Query) × (w ≡ accepted q)
unfolding leaves
accepted-by (accepted q) t table v n a c e = (q, refl)
accepted-by (refused m p) t table v n a c e = no-mix (told_is e).0

refused-by : (w : Verdict) (t table : List ℕ) (n p : ℕ) → told (Refused n p) table ≡ leaves w t → (w ≡ refused n p) × (table ≡ t)
unfolding leaves group_ends
refused-by (accepted q) t table n p e = no-mix (sym (told_is e).0)
refused-by (refused m r) t table n p e = let z = refused-is (told_is e).0 in (rw (z.0, z.1), (told_is e).1)

pub accepted-query : (s t table : List ℕ) (values requesters attributes assertions : ℕ) → told (Accepted values requesters attributes assertions) table ≡ read_into s t
    → (q : Query) × (read_record s ≡ accepted q)
unfolding read_into
accepted-query s t table v n a c e = accepted-by (read_record s) t table v n a c e

pub refused-record : (s t table : List ℕ) (n p : ℕ) → told (Refused n p) table ≡ read_into s t → (read_record s ≡ refused n p) × (table ≡ t)
unfolding read_into
refused-record s t table n p e = refused-by (read_record s) t table n p e
