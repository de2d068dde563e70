-- Working theorems: the cursor's steps go by places, the readers of Field and Item by what they read; here each is tied to the other.
-- Assumes nothing.
use Rattle.std.specs.Prelude.{◌≡◌, Bool, true, false, List, map, ℕ, ◌+◌, ◌-◌, ◌≤◌, ltb, leb, get_or}
use Rattle.std.proofs.Math.Path.{refl}
use Rattle.std.proofs.Common.{arith, length-take, length-drop}
use Rattle.std.proofs.Math.ListN.{length}
use borrow.Author.Tests.{le-ltb, ltb-false}
use Rattle.text.specs.Choice.{pick}
use Rattle.text.specs.Scan.{run}
use Rattle.text.specs.Class.{in_class, plain}
use Rattle.text.specs.Counted.{part, pair_at, counted}
use Rattle.limits.specs.Limits.{least_value, most_value, least_requester, most_requester, least_name, most_name, least_setting, most_setting, least_text, most_text, most_standing}
use Rattle.record.specs.Query.{Attribute, Supplied}
use Rattle.record.specs.Read.{Read, got, bad, and_then}
use Rattle.text.specs.Equal.{equal}
use Rattle.principal.specs.Principal.{policy}
use Rattle.record.specs.Field.{count_at, length_at, content_at, field_at, name_front, permitted, askable, among, distinct}
use Rattle.record.specs.Item.{plain_at, value_at, requester_at, attribute_name_at, attribute_at, assertion_at}
use Rattle.record.specs.Places.{string_size, attribute_size, assertion_size}
use Rattle.record.specs.Lies.{StringAt, AttributeAt, AssertionAt}
use Rattle.record.specs.Working.Moves.{Moved, To, cursor, on_to, count_move, length_move, content_move, field_move, permitted_move, askable_move, distinct_move, plain_move, value_move, requester_move, name_move, attribute_move, assertion_move}
use Rattle.record.specs.Refusal.{Refused}

-- both refuse with one number and place, or both go on to one place and `Sees` relates the number to what is read
pub data Ties {A : Type 0} (Sees : ℕ → ℕ → A → Type 0) : Read A → Moved → Type 0 where
  tie-to : {v p : ℕ} {a : A} → Sees v p a → Ties Sees (got a p) (To v (cursor p))
  tie-no : {n p : ℕ} → Ties Sees (bad n p) (Refused n p)

tie-then : {A B : Type 0} {S : ℕ → ℕ → A → Type 0} {R : ℕ → ℕ → B → Type 0} {r : Read A} {m : Moved} (k : A → ℕ → Read B) (h : ℕ → ℕ → Moved)
    → Ties S r m → ((v p : ℕ) (a : A) → S v p a → Ties R (k a p) (h v p)) → Ties R (and_then r k) (on_to m h)
tie-then k h (tie-to s) f = f _ _ _ s
tie-then k h tie-no f = tie-no

tie-pick : {A : Type 0} {S : ℕ → ℕ → A → Type 0} (b : Bool) {x y : Read A} {m n : Moved}
    → (b ≡ true → Ties S x m) → (b ≡ false → Ties S y n) → Ties S (pick b x y) (pick b m n)
tie-pick true f g = f refl
tie-pick false f g = g refl

-- where an item lies: its string starts `lead` bytes in, it takes `size` bytes, its string is `key`, and it lies there as `At` says
pub record Spot {A : Type 0} (s : List ℕ) (key : A → List ℕ) (At : ℕ → A → Type 0) (size : A → ℕ) (lead at v p : ℕ) (a : A) : Type 0 where
  pub start : v ≡ at + lead
  pub end : p ≡ at + size a
  pub string : counted s v ≡ key a
  pub lies : At v a

abbrev pub itself : List ℕ → List ℕ
itself b = b

module _ (s : List ℕ) (least most at : ℕ) where
  pub count-tie : Ties (λ v p n. (v ≡ n) × (p ≡ at + 1) × (n ≤ most)) (count_at s least most at) (count_move s least most at)
  unfolding count_at count_move
  count-tie =
      tie-pick (leb (length s) at) (λ e. tie-no)
      (λ e. tie-pick (ltb (get_or s at 0) least) (λ f. tie-no)
      (λ f. tie-pick (ltb most (get_or s at 0)) (λ g. tie-no) (λ g. tie-to (refl, refl, ltb-false _ _ g))))

  length-tie : Ties (λ v p n. (v ≡ n) × (p ≡ at + 2) × (n ≡ pair_at s at)) (length_at s least most at) (length_move s least most at)
  unfolding length_at length_move
  length-tie =
      tie-pick (ltb (length s) (at + 2)) (λ e. tie-no)
      (λ e. tie-pick (ltb (pair_at s at) least) (λ f. tie-no)
      (λ f. tie-pick (ltb most (pair_at s at)) (λ g. tie-no) (λ g. tie-to (refl, refl, refl))))

content-tie : (s : List ℕ) (n at : ℕ) → Ties (λ v p b. (v ≡ at) × (p ≡ at + n) × (b ≡ part s at n) × (at + n ≤ length s)) (content_at s n at) (content_move s n at)
unfolding content_at content_move
content-tie s n at = tie-pick (ltb (length s) (at + n)) (λ e. tie-no) (λ e. tie-to (refl, refl, refl, ltb-false _ _ e))

counted_is : (s : List ℕ) (at n : ℕ) → n ≡ pair_at s at → at + 2 + n ≤ length s → counted s (at + 2) ≡ part s (at + 2) n
unfolding counted
counted_is s at n e h =
    let z : at + 2 - 2 ≡ at = omega arith in
    rw (le-ltb (at + 2) 2 (omega arith), le-ltb (length s) (at + 2) (omega arith), z, ← e, le-ltb (length s - (at + 2)) n (omega arith))

part_length : (s : List ℕ) (at n : ℕ) → at + n ≤ length s → length (part s at n) ≡ n
unfolding part
part_length s at n h = simp (length-take, length-drop) (omega arith)

module _ (s : List ℕ) (least most at : ℕ) where
  content-spot : (n v p : ℕ) (b : List ℕ) → n ≡ pair_at s at → v ≡ at + 2 → p ≡ at + 2 + n → b ≡ part s (at + 2) n → at + 2 + n ≤ length s
      → Spot s itself (StringAt s) string_size 2 at v p b
  unfolding string_size
  content-spot n v p b e ve pe be h =
      let l : length b ≡ n = rw be (part_length s (at + 2) n h) in
      record { start = ve; end = omega arith; string = rw (ve, be) (counted_is s at n e h); lies = rw (ve, be) (counted_is s at n e h) }

  field-tie : Ties (Spot s itself (StringAt s) string_size 2 at) (field_at s least most at) (field_move s least most at)
  unfolding field_at field_move
  field-tie =
      tie-then (λ n p. content_at s n p) (λ n p. content_move s n p) (length-tie s least most at)
      (λ v p n (ve, pe, ne). rw (ve, pe)
      (spots n ne (content-tie s n (at + 2)))) where
        spots : (n : ℕ) → n ≡ pair_at s at → {r : Read (List ℕ)} {m : Moved}
            → Ties (λ v p b. (v ≡ at + 2) × (p ≡ at + 2 + n) × (b ≡ part s (at + 2) n) × (at + 2 + n ≤ length s)) r m
            → Ties (Spot s itself (StringAt s) string_size 2 at) r m
        spots n e (tie-to (ve, pe, be, h)) = tie-to (content-spot n _ _ _ e ve pe be h)
        spots n e tie-no = tie-no

-- the tests on bytes and on repetition, by place and by what is read
module _ {A : Type 0} {S : ℕ → ℕ → A → Type 0} (s : List ℕ) (at v : ℕ) (b : List ℕ) (start : v ≡ at + 2) (string : counted s v ≡ b) where
  permitted-tie : (front : List ℕ → ℕ) {r : Read A} {m : Moved} → Ties S r m
      → Ties S (permitted (front b) b (at + 2) r) (permitted_move (front (counted s v)) (counted s v) v m)
  permitted-tie front {r} {m} t = rw (string, start) (tie-pick {S = S} (ltb (front b) (length b)) {x = bad 6 (at + 2 + front b)} {y = r} (λ e. tie-no) (λ e. t))

  askable-tie : {r : Read A} {m : Moved} → Ties S r m → Ties S (askable b (at + 2) r) (askable_move (counted s v) v m)
  askable-tie {r} {m} t = rw (string, start) (tie-pick {S = S} (equal b policy) {x = bad 10 (at + 2)} {y = r} (λ e. tie-no) (λ e. t))

  distinct-tie : (seen : List (List ℕ)) {r : Read A} {m : Moved} → Ties S r m → Ties S (distinct b seen (at + 2) r) (distinct_move (counted s v) seen v m)
  distinct-tie seen {r} {m} t = rw (string, start) (tie-pick {S = S} (among b seen) {x = bad 7 (at + 2)} {y = r} (λ e. tie-no) (λ e. t))

module _ (s : List ℕ) (least most at : ℕ) where
  pub plain-tie : Ties (Spot s itself (StringAt s) string_size 2 at) (plain_at s least most at) (plain_move s least most at)
  unfolding plain_at plain_move
  plain-tie =
      tie-then (λ b p. permitted (run (in_class plain) b) b (at + 2) (got b p))
      (λ v p. permitted_move (run (in_class plain) (counted s v)) (counted s v) v (To v (cursor p)))
      (field-tie s least most at) (λ v p b spot. permitted-tie s at v b spot.start spot.string (run (in_class plain)) (tie-to spot))

module _ (s : List ℕ) (seen : List (List ℕ)) (at : ℕ) where
  pub value-tie : Ties (Spot s itself (StringAt s) string_size 2 at) (value_at s seen at) (value_move s seen at)
  unfolding value_at value_move
  value-tie =
      tie-then (λ b p. distinct b seen (at + 2) (got b p)) (λ v p. distinct_move (counted s v) seen v (To v (cursor p)))
      (plain-tie s least_value most_value at) (λ v p b spot. distinct-tie s at v b spot.start spot.string seen (tie-to spot))

  pub requester-tie : Ties (Spot s itself (StringAt s) string_size 2 at) (requester_at s seen at) (requester_move s at)
  unfolding requester_at requester_move
  requester-tie =
      tie-then (λ b p. askable b (at + 2) (got b p)) (λ v p. askable_move (counted s v) v (To v (cursor p)))
      (plain-tie s least_requester most_requester at) (λ v p b spot. askable-tie s at v b spot.start spot.string (tie-to spot))

  name-tie : Ties (Spot s itself (StringAt s) string_size 2 at) (attribute_name_at s seen at) (name_move s seen at)
  unfolding attribute_name_at name_move
  name-tie =
      tie-then (λ b p. permitted (name_front b) b (at + 2) (distinct b seen (at + 2) (got b p)))
      (λ v p. permitted_move (name_front (counted s v)) (counted s v) v (distinct_move (counted s v) seen v (To v (cursor p))))
      (field-tie s least_name most_name at)
      (λ v p b spot. permitted-tie s at v b spot.start spot.string name_front (distinct-tie s at v b spot.start spot.string seen (tie-to spot)))

abbrev pub name_of : Attribute → List ℕ
name_of a = a.name

abbrev pub text_of : Supplied → List ℕ
text_of a = a.text

module _ (s : List ℕ) (seen : List Attribute) (at : ℕ) where
  attribute-spot : (v p w q : ℕ) (n x : List ℕ) → Spot s itself (StringAt s) string_size 2 at v p n → Spot s itself (StringAt s) string_size 2 p w q x
      → Spot s name_of (AttributeAt s) attribute_size 2 at v q (record { name = n; value = x })
  unfolding attribute_size string_size
  attribute-spot v p w q n x one two =
      let z : w ≡ v + length n + 2 = omega (arith, one.start, one.end, two.start) in
      record { start = one.start; end = omega (arith, one.end, two.end); string = one.string; lies = (one.string, rw z at two.string) }

  pub attribute-tie : Ties (Spot s name_of (AttributeAt s) attribute_size 2 at) (attribute_at s seen at) (attribute_move s (map name_of seen) at)
  unfolding attribute_at attribute_move
  attribute-tie =
      tie-then (λ n p. and_then (plain_at s least_setting most_setting p) (λ x q. got (record { name = n; value = x }) q))
      (λ v p. on_to (plain_move s least_setting most_setting p) (λ w q. To v (cursor q)))
      (name-tie s (map name_of seen) at)
      (λ v p n one. tie-then (λ x q. got (record { name = n; value = x }) q) (λ w q. To v (cursor q)) (plain-tie s least_setting most_setting p)
      (λ w q x two. tie-to (attribute-spot v p w q n x one two)))

module _ (s : List ℕ) (seen : List Supplied) (at : ℕ) where
  assertion-spot : (v p : ℕ) (x : List ℕ) → Spot s itself (StringAt s) string_size 2 (at + 1) v p x
      → Spot s text_of (AssertionAt s) assertion_size 3 at v p (record { standing = get_or s at 0; text = x })
  unfolding assertion_size
  assertion-spot v p x one =
      let z : v - 3 ≡ at = omega (arith, one.start) in
      record { start = omega (arith, one.start); end = omega (arith, one.end); string = one.string; lies = (one.string, rw z) }

  text-tie : {r : Read (List ℕ)} {m : Moved} → Ties (Spot s itself (StringAt s) string_size 2 (at + 1)) r m
      → Ties (Spot s text_of (AssertionAt s) assertion_size 3 at) (and_then r (λ t p. got (record { standing = get_or s at 0; text = t }) p)) m
  text-tie (tie-to spot) = tie-to (assertion-spot _ _ _ spot)
  text-tie tie-no = tie-no

  pub assertion-tie : Ties (Spot s text_of (AssertionAt s) assertion_size 3 at) (assertion_at s seen at) (assertion_move s at)
  unfolding assertion_at assertion_move
  assertion-tie =
      tie-pick (leb (length s) at) (λ e. tie-no)
      (λ e. tie-pick (ltb most_standing (get_or s at 0)) (λ f. tie-no) (λ f. text-tie (field-tie s least_text most_text (at + 1))))
