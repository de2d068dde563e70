-- Working theorems: items, groups and the whole record with the table of places are what `read_record` says. Assumes nothing.
use Rattle.std.specs.Prelude.{◌≡◌, take, drop, set}
use Rattle.std.proofs.Math.Path.{refl}
use Rattle.std.proofs.Common.{sym, ap, ◌∙◌, subst, add-one, length-drop, take-suc-set}
use mathlib.Core.List.{List, [], ◌∷◌, ◌++◌, map, append_assoc}
use Prim.Native.Nat.{ℕ, suc, ◌+◌, ◌-◌, ◌<◌, ◌≤◌}
use native.Mathlib.Omega.{arith}
use Rattle.std.proofs.Math.ListN.{length}
use Rattle.std.proofs.lemmas.List.{set_split, drop-set-add}
use Rattle.text.specs.Copy.{put}
use Rattle.text.specs.CopyLaws.{put-append}
use Rattle.text.specs.Counted.{part, counted}
use Rattle.limits.specs.Limits.{most_items}
use Rattle.record.specs.Query.{Query}
use Rattle.record.specs.Read.{Read, got, bad, Verdict, accepted, refused}
use Rattle.record.specs.Places.{places_from, end_from, places}
use Rattle.record.specs.Lies.{Lie, Lies}
use Rattle.record.specs.Reading.{Told, told, group_ends}
use Rattle.record.specs.Working.Moves.{To, cursor, seen_of}
use Rattle.record.specs.Working.Groups.{Ran, ran}
use Rattle.record.specs.Working.Ties.{itself}
use Rattle.record.specs.Refusal.{Refused}

-- lists
map_snoc : (f : ℕ → List ℕ) (l : List ℕ) (v : ℕ) → map f (l ++ (v ∷ [])) ≡ map f l ++ (f v ∷ [])
map_snoc f [] v = refl
map_snoc f (x ∷ xs) v = ap (λ (r : List (List ℕ)). f x ∷ r) (map_snoc f xs v)

pub map-snoc-key : {A : Type 0} (f : A → List ℕ) (l : List A) (a : A) → map f (l ++ (a ∷ [])) ≡ map f l ++ (f a ∷ [])
map-snoc-key f [] a = refl
map-snoc-key {A} f (x ∷ xs) a = ap (λ (r : List (List ℕ)). f x ∷ r) (map-snoc-key f xs a)

set-put : (t : List ℕ) (i v : ℕ) → i < length t → set t i v ≡ put t i (v ∷ [])
unfolding put
set-put t i v h = rw (add-one i) (set_split t i v h ∙ sym (append_assoc (take i t) (v ∷ []) (drop (suc i) t)))

pub put-cons : (t : List ℕ) (i v : ℕ) (xs : List ℕ) → i < length t → put (set t i v) (i + 1) xs ≡ put t i (v ∷ xs)
put-cons t i v xs h = rw (set-put t i v h) (sym (put-append t i (v ∷ []) xs (omega arith)))

pub seen_more : (s t : List ℕ) (from i v : ℕ) → from ≤ i → i < length t → seen_of s (set t i v) from (i + 1) ≡ seen_of s t from i ++ (counted s v ∷ [])
unfolding seen_of part
seen_more s t from i v h l =
    let k : ℕ = i - from in
    let e : i ≡ from + (i - from) = omega arith in
    let n : i + 1 - from ≡ suc (i - from) = omega arith in
    let d : drop from (set t i v) ≡ set (drop from t) (i - from) v = ap (λ (j : ℕ). drop from (set t j v)) e ∙ drop-set-add from t (i - from) v in
    let m : i - from < length (drop from t) = simp length-drop (omega arith) in
    rw (n, d, take-suc-set (drop from t) (i - from) v m) (map_snoc (counted s) (take (i - from) (drop from t)) v)

pub seen_none : (s t : List ℕ) (from : ℕ) → seen_of s t from from ≡ []
unfolding seen_of part
seen_none s t from = let z : from - from ≡ 0 = omega arith in rw z

-- items: both refuse alike, or the table has the places of what is read from entry i on
pub data Runs {A : Type 0} (At : ℕ → A → Type 0) (size : A → ℕ) (lead : ℕ) (t : List ℕ) (i at : ℕ) (seen : List A) (n : ℕ) : Read (List A) → Ran → Type 0 where
  run-to : (new : List A) → length new ≡ n → Lie At (places_from size lead at new) new
      → Runs At size lead t i at seen n (got (seen ++ new) (end_from size lead at new))
      (ran (To (i + length new) (cursor (end_from size lead at new))) (put t i (places_from size lead at new)))
  run-no : {k p : ℕ} {u : List ℕ} → Runs At size lead t i at seen n (bad k p) (ran (Refused k p) u)

-- a group
pub data Group {A : Type 0} (At : ℕ → A → Type 0) (size : A → ℕ) (lead : ℕ) (t : List ℕ) (from at most : ℕ) : Read (List A) → Ran → Type 0 where
  group-to : (l : List A) → length l ≤ most → Lie At (places_from size lead (at + 1) l) l
      → Group At size lead t from at most (got l (end_from size lead (at + 1) l))
      (ran (To (from + length l) (cursor (end_from size lead (at + 1) l))) (put t from (places_from size lead (at + 1) l)))
  group-no : {k p : ℕ} {u : List ℕ} → Group At size lead t from at most (bad k p) (ran (Refused k p) u)

-- the four groups, one behind the other
pub map-itself : (l : List (List ℕ)) → map itself l ≡ l
map-itself [] = refl
map-itself (x ∷ xs) = ap (λ (r : List (List ℕ)). x ∷ r) (map-itself xs)

pub places-length : {A : Type 0} (size : A → ℕ) (lead at : ℕ) (l : List A) → length (places_from size lead at l) ≡ length l
unfolding places_from
places-length size lead at [] = refl
places-length size lead at (a ∷ l) = ap suc (places-length size lead (at + size a) l)

-- both refuse alike, or the table has the places of the query
pub data Whole (s t : List ℕ) : Verdict → Told → Type 0 where
  whole_to : (q : Query) → length (places q) ≤ most_items → Lies s q → Whole s t (accepted q) (told (group_ends q) (put t 0 (places q)))
  whole-no : {k p : ℕ} {u : List ℕ} → Whole s t (refused k p) (told (Refused k p) u)

pub put_next : (t a b : List ℕ) (n : ℕ) → length a ≡ n → put (put t 0 a) n b ≡ put t 0 (a ++ b)
put_next t a b n e = let z : n ≡ 0 + length a = omega arith in rw z (sym (put-append t 0 a b (omega arith)))

module _ (s t : List ℕ) (room : most_items ≤ length t) where
  abbrev named : List (List ℕ) → List (List ℕ) → Query
  named v r = record { values = v; requesters = r; attributes = []; assertions = [] }

-- the items of an accepted query lie in the record at their places
pub lies-of : {s t : List ℕ} {v : Verdict} {w : Told} → Whole s t v w → (q : Query) → v ≡ accepted q → Lies s q
lies-of {s} (whole_to q₁ few lies) q e = let z : q₁ ≡ q = cc in subst (λ (x : Query). Lies s x) z lies
lies-of whole-no q e = let z : ◌≡◌ {A = ℕ} 0 1 = cc in absurd (omega arith)
