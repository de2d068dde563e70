-- An entry of the table: an identifier's tag (20 bits), where it lies in the pool (20 bits), and the numbers of two further entries (12 bits each).
-- Assumes nothing.
use Rattle.std.specs.Prelude.{◌≡◌, refl, Bool, true, false, List, [], ◌∷◌, ℕ, ◌+◌, ◌*◌, ◌/◌, ◌%◌, ◌<◌, eqb}
use Rattle.std.proofs.Common.{sym, arith, eq-eqb, eqb-true}
use Rattle.text.specs.Choice.{pick, split, clash}
use Rattle.text.specs.Counted.{counted}
use Rattle.record.specs.Places.{string_size}
use Rattle.principal.specs.Principal.{Principal, same}
use Rattle.principal.specs.Tag.{tag, tag-low}
use Rattle.principal.proofs.Laws.Tag.{same_tag}

unfoldable pub packed : ℕ → ℕ → ℕ
packed place t = place * 1048576 + t

-- an entry without the further ones
unfoldable pub plain : ℕ → ℕ
plain e = e % 1099511627776

-- where the identifier lies that an entry is of
unfoldable pub place_in : ℕ → ℕ
place_in e = e / 1048576 % 1048576

-- the identifier that an entry is of
unfoldable pub identifier_at : List ℕ → ℕ → List ℕ
identifier_at pool e = counted pool (place_in e)

-- the entries of principals that lie one behind the other, each behind its two-byte length
unfoldable pub entries_from : ℕ → List Principal → List ℕ
entries_from at [] = []
entries_from at (b ∷ l) = packed (at + 2) (tag b) ∷ entries_from (at + string_size b) l

-- is it the principal's entry? Where the tags differ it isn't
unfoldable pub is_at : List ℕ → Principal → ℕ → Bool
is_at pool p e = pick (eqb (e % 1048576) (tag p)) (same p (identifier_at pool e)) false

-- the further entry for tags whose next bit is t's
unfoldable pub child : ℕ → ℕ → ℕ
child e t = pick (eqb (t % 2) 0) (e / 1099511627776 % 4096) (e / 4503599627370496)

-- an entry with c for it
unfoldable pub linked : ℕ → ℕ → ℕ → ℕ
linked e t c =
    pick (eqb (t % 2) 0) (e / 4503599627370496 * 4503599627370496 + c * 1099511627776 + e % 1099511627776) (c * 4503599627370496 + e % 4503599627370496)

pub plain-none : plain 0 ≡ 0
unfolding plain
plain-none = refl

-- a principal's entry has its tag
pub at_tag : (pool : List ℕ) (p : Principal) (e : ℕ) → is_at pool p e ≡ true → e % 1048576 ≡ tag p
unfolding is_at
at_tag pool p e h = split (eqb (e % 1048576) (tag p)) (λ y. eqb-true (e % 1048576) (tag p) y) (λ n. clash h (let z : is_at pool p e ≡ false = rw n in z))

-- the tag of an entry, and where it lies, stand in its plain part
pub plain-tag : (e : ℕ) → plain e % 1048576 ≡ e % 1048576
unfolding plain
plain-tag e = omega arith

plain-place : (e : ℕ) → place_in (plain e) ≡ place_in e
unfolding plain place_in
plain-place e = omega arith

pub plain-name : (pool : List ℕ) (e : ℕ) → identifier_at pool (plain e) ≡ identifier_at pool e
unfolding identifier_at
plain-name pool e = rw (plain-place e)

pub plain_at_lem : (pool : List ℕ) (p : Principal) (e : ℕ) → is_at pool p (plain e) ≡ is_at pool p e
unfolding is_at
plain_at_lem pool p e = rw (plain-tag e, plain-name pool e)

-- only the next bit counts
pub child-alike : (e s u : ℕ) → eqb (s % 2) 0 ≡ eqb (u % 2) 0 → child e s ≡ child e u
unfolding child
child-alike e s u h = rw h

-- a further entry changes nothing else
module _ (e t c : ℕ) (low : c < 4096) where
  pub linked-plain : plain (linked e t c) ≡ plain e
  unfolding linked plain
  linked-plain = split (eqb (t % 2) 0) (λ h. rw h (omega (arith, low))) (λ h. rw h (omega (arith, low)))

  pub linked-here : (u : ℕ) → eqb (u % 2) 0 ≡ eqb (t % 2) 0 → child (linked e t c) u ≡ c
  unfolding linked child
  linked-here u s = rw s (split (eqb (t % 2) 0) (λ h. rw h (omega (arith, low))) (λ h. rw h (omega (arith, low))))

  pub linked-other : (u : ℕ) → eqb (u % 2) 0 ≡ true → eqb (t % 2) 0 ≡ false → child (linked e t c) u ≡ child e u
  unfolding linked child
  linked-other u a b = rw (a, b) (omega (arith, low))

  pub linked-another : (u : ℕ) → eqb (u % 2) 0 ≡ false → eqb (t % 2) 0 ≡ true → child (linked e t c) u ≡ child e u
  unfolding linked child
  linked-another u a b = rw (a, b) (omega (arith, low))

module _ (place : ℕ) (near : place < 1048576) (b : Principal) where
  pub packed-place : place_in (packed place (tag b)) ≡ place
  unfolding packed place_in
  packed-place = omega (arith, near, tag-low b)

  pub packed-tag : packed place (tag b) % 1048576 ≡ tag b
  unfolding packed
  packed-tag = omega (arith, tag-low b)

  pub packed-plain : plain (packed place (tag b)) ≡ packed place (tag b)
  unfolding packed plain
  packed-plain = omega (arith, near, tag-low b)

  pub packed-is : (pool : List ℕ) (p : Principal) → counted pool place ≡ b → is_at pool p (packed place (tag b)) ≡ same p b
  unfolding is_at identifier_at
  packed-is pool p e =
      rw (packed-place, packed-tag, e)
      (split (same p b)
      (λ y. rw (eq-eqb (tag b) (tag p) (sym (same_tag p b y)), y)) (λ n. split (eqb (tag b) (tag p)) (λ t. rw (t, n)) (λ t. rw (t, n))))
