-- Working laws: the ways out of `copy_entries` and `read`. Assumes nothing.
use Rattle.std.specs.Prelude.{◌≡◌, refl, List, ◌++◌, ℕ, suc, ◌+◌, ◌<◌, ◌≤◌, get_or, take, drop, replicate}
use Rattle.std.proofs.Math.Path.{sym}
use Rattle.std.proofs.Common.{ap, ◌∙◌, length-append, length-take-le}
use native.Mathlib.Omega.{arith}
use Rattle.std.proofs.Math.Numerals.{add-one}
use Rattle.std.proofs.Math.Nat.{zero-add}
use Rattle.std.proofs.Math.ListN.{length, set}
use Rattle.std.proofs.lemmas.List.{length-replicate}
use Rattle.std.proofs.Math.Seq.{paste, paste-suc, take-append_seam}
use Rattle.text.specs.Copy.{put}
use Rattle.text.specs.CopyLaws.{put-nil}
use Rattle.limits.specs.Limits.{most_items}
use Rattle.record.specs.Query.{Query}
use Rattle.record.specs.Read.{Verdict, accepted, refused}
use Rattle.record.specs.Places.{places_from, string_size, attribute_size, assertion_size, requesters_start, attributes_start, assertions_start, places}
use Rattle.record.specs.Reading.{Reading, Accepted, Told, told, group_ends}
use Rattle.record.specs.Working.Tables.{Whole, whole_to, whole-no, places-length}
use Rattle.record.specs.Refusal.{Refused, refused_number, refused_place}
use Rattle.record.specs.declared.Ends.{Ends}

-- `copy_entries`: the first i entries are in place
unfoldable pub entered : List ℕ → List ℕ → ℕ → List ℕ
entered dst src i = put dst 0 (take i src)

module _ (dst src : List ℕ) where
  pub enter-none : dst ≡ entered dst src 0
  unfolding entered
  enter-none = sym (put-nil dst 0)

  put-paste : (i : ℕ) → i ≤ length src → put dst 0 (take i src) ≡ paste dst 0 src i
  unfolding put
  put-paste i h = rw (length-take-le i src h)

  pub enter-more : (v : List ℕ) (i n : ℕ) → n ≤ length src → n ≤ length dst → i < n → v ≡ entered dst src i → set v i (get_or src i 0) ≡ entered dst src (i + 1)
  unfolding entered
  enter-more v i n h k l e =
      let z : 0 + i ≡ i = zero-add i in
      let a : set (paste dst 0 src i) (0 + i) (get_or src i 0) ≡ paste dst 0 src (suc i) = paste-suc dst 0 src i 0 (omega arith) (omega arith) in
      rw (e, add-one i, put-paste i (omega arith), put-paste (suc i) (omega arith)) (ap (λ (j : ℕ). set (paste dst 0 src i) j (get_or src i 0)) (sym z) ∙ a)

  pub enter-done : (v : List ℕ) (i n : ℕ) → i ≤ n → n ≤ i → v ≡ entered dst src i → v ≡ put dst 0 (take n src)
  unfolding entered
  enter-done v i n h k e = let z : i ≡ n = omega arith in rw (← z) e

pub entries-put : (dst src : List ℕ) (n : ℕ) → n ≤ length src → (v : List ℕ) → v ≡ take n src → v ++ drop n dst ≡ put dst 0 (take n src)
unfolding put
entries-put dst src n h v e = let z : 0 + length (take n src) ≡ n = omega (arith, length-take-le n src h) in rw (e, z) refl

-- a query has as many places as its groups' entries end at
pub all-places : (q : Query) → length (places q) ≡ length q.values + length q.requesters + length q.attributes + length q.assertions
unfolding places
all-places q =
    let v : List ℕ = places_from string_size 2 2 q.values in
    let r : List ℕ = places_from string_size 2 (requesters_start q) q.requesters in
    let a : List ℕ = places_from attribute_size 2 (attributes_start q) q.attributes in
    let c : List ℕ = places_from assertion_size 3 (assertions_start q) q.assertions in
    omega (
      arith,
      length-append (v ++ r ++ a) c,
      length-append (v ++ r) a,
      length-append v r,
      places-length string_size 2 2 q.values,
      places-length string_size 2 (requesters_start q) q.requesters,
      places-length attribute_size 2 (attributes_start q) q.attributes,
      places-length assertion_size 3 (assertions_start q) q.assertions,
    )

pub record Took (t : List ℕ) (w : Verdict) (u : List ℕ) (v r a c : ℕ) : Type 0 where
  pub query : Query
  pub is : w ≡ accepted query
  pub ends : Accepted v r a c ≡ group_ends query
  pub holds : u ≡ put t 0 (places query)
  pub few : length (places query) ≤ most_items

pub refused-of : {s t : List ℕ} {w : Verdict} {x : Told} → Whole s t w x → (m : Reading) (u : List ℕ) → told m u ≡ x → (k p : ℕ) → m ≡ Refused k p → w ≡ refused k p
unfolding group_ends
refused-of (whole_to q l lies) m u e k p f = cc
refused-of (whole-no {k = i} {p = j}) m u e k p f =
    let z : Refused {A = Ends} i j ≡ Refused {A = Ends} k p = cc in cc (refused_number i j k p z, refused_place i j k p z)

pub accepted-of : {s t : List ℕ} {w : Verdict} {x : Told} → Whole s t w x → (m : Reading) (u : List ℕ) → told m u ≡ x → (v r a c : ℕ) → m ≡ Accepted v r a c → Took t w u v r a c
accepted-of (whole_to q l lies) m u e v r a c f = record { query = q; is = refl; ends = cc; holds = cc; few = l }
accepted-of whole-no m u e v r a c f = let z : ◌≡◌ {A = ℕ} 0 1 = cc in absurd (omega arith)

pub front_of : (t u p : List ℕ) (c : ℕ) → u ≡ put t 0 p → c ≡ length p → take c u ≡ p
unfolding put
front_of t u p c e f = rw (e, f) (take-append_seam p (drop (0 + length p) t))

-- `read`
unfoldable pub empty : List ℕ
empty = replicate most_items 0

pub room : most_items ≤ length empty
unfolding empty
room = omega (arith, length-replicate {A = ℕ} most_items 0)
