-- Working laws: the loops that join strings with commas. Assumes nothing.
use Rattle.std.specs.Prelude.{◌≡◌, refl, Bool, List, [], ◌∷◌, ◌++◌, map, leb, ltb, get_or, drop, set}
use Rattle.std.proofs.Math.Path.{sym}
use Rattle.std.proofs.Common.{ap, ◌∙◌, add-one, length-append, drop_of_length-le, drop-cons}
use Rattle.std.proofs.Math.Bool.{true, false}
use mir.Val.{bool_byte}
use Prim.Native.Nat.{ℕ, zero, suc, ◌+◌, ◌-◌, ◌<◌, ◌≤◌}
use native.Mathlib.Omega.{arith}
use Rattle.std.proofs.Math.ListN.{length}
use borrow.Author.Tests.{lt-ltb, le-leb, lt-leb, leb-true, leb-false}
use Rattle.text.specs.Choice.{split, clash}
use Rattle.text.specs.Copy.{copied, put, copy_at}
use Rattle.text.specs.CopyLaws.{put-nil, put-append, put_front, put-length}
use Rattle.text.specs.Counted.{counted}
use Rattle.text.specs.Join.{followed, joined}

-- a comma before every string but the first
unfoldable pub comma : ℕ → List ℕ
comma zero = []
comma (suc i) = 44 ∷ []

-- what is left to write from string i on
unfoldable pub behind : ℕ → List (List ℕ) → List ℕ
behind zero xs = joined xs
behind (suc i) xs = followed xs

-- the strings of a table of places, from number i on
unfoldable pub left_of : List ℕ → List ℕ → ℕ → List ℕ
left_of s ps i = behind i (map (counted s) (drop i ps))

unfoldable pub next_of : List ℕ → List ℕ → ℕ → List ℕ
next_of s ps i = comma i ++ counted s (get_or ps i 0)

pub left-start : (s ps : List ℕ) → left_of s ps 0 ≡ joined (map (counted s) ps)
unfolding left_of behind
left-start s ps = refl

behind-cons : (i : ℕ) (x : List ℕ) (xs : List (List ℕ)) → behind i (x ∷ xs) ≡ (comma i ++ x) ++ behind (suc i) xs
unfolding behind comma joined followed
behind-cons zero x xs = refl
behind-cons (suc i) x xs = refl

behind-nil : (i : ℕ) → behind i [] ≡ []
unfolding behind joined followed
behind-nil zero = refl
behind-nil (suc i) = refl

left-cons : (s ps : List ℕ) (i : ℕ) → i < length ps → left_of s ps i ≡ next_of s ps i ++ left_of s ps (i + 1)
unfolding left_of next_of
left-cons s ps i h = rw (add-one i, drop-cons ps i 0 h) (behind-cons i (counted s (get_or ps i 0)) (map (counted s) (drop (suc i) ps)))

left-nil : (s ps : List ℕ) (i : ℕ) → length ps ≤ i → left_of s ps i ≡ []
unfolding left_of
left-nil s ps i h = rw (drop_of_length-le ps h) (behind-nil i)

-- the ways out of `copy_item`
comma-is : (i : ℕ) → (i ≡ 0 → ⊥) → comma i ≡ 44 ∷ []
unfolding comma
comma-is zero nz = absurd (nz refl)
comma-is (suc i) nz = refl

module _ (d : List ℕ) (at i : ℕ) (x : List ℕ) where
  pub item-first : i ≡ 0 → (r : Bool) (e : List ℕ) → copied r e ≡ copy_at d at x → copied r e ≡ copy_at d at (comma i ++ x)
  unfolding comma
  item-first z r e h = rw z h

  module _ (nz : i ≡ 0 → ⊥) where
    pub item-end : length d ≤ at → copied false d ≡ copy_at d at (comma i ++ x)
    unfolding copy_at
    item-end h = rw (comma-is i nz, lt-leb (at + suc (length x)) (length d) (omega arith))

    module _ (in-d : at < length d) (t : Bool) (e : List ℕ) (is : copied t e ≡ copy_at d (at + 1) x) where
      fits-is : leb (at + 1 + length x) (length d) ≡ leb (at + suc (length x)) (length d)
      fits-is = let k : at + 1 + length x ≡ at + suc (length x) = omega arith in rw k

      pub item-put : t ≡ true → copied true (set e at 44) ≡ copy_at d at (comma i ++ x)
      unfolding copy_at
      item-put tt' =
          split (leb (at + suc (length x)) (length d))
          (λ h. let q : copied t e ≡ copied true (put d (at + 1) x) = rw (fits-is, h) at is in
          let ee : e ≡ put d (at + 1) x = cc in
          rw (comma-is i nz, h, ee, put_front d at 44 x in-d))
          (λ h. let q : copied t e ≡ copied false d = rw (fits-is, h) at is in
          let no : t ≡ false = cc in clash tt' no)

      pub item-none : t ≡ false → copied false e ≡ copy_at d at (comma i ++ x)
      unfolding copy_at
      item-none tf =
          split (leb (at + suc (length x)) (length d))
          (λ h. let q : copied t e ≡ copied true (put d (at + 1) x) = rw (fits-is, h) at is in
          let yes : t ≡ true = cc in clash yes tf)
          (λ h. let q : copied t e ≡ copied false d = rw (fits-is, h) at is in
          let ee : e ≡ d = cc in
          rw (comma-is i nz, h, ee))

-- the loop that measures: does what is left fit?
unfoldable pub fits_rest : List ℕ → List ℕ → ℕ → ℕ → Bool
fits_rest s ps i left = leb (length (left_of s ps i)) left

comma-length : (i c : ℕ) → (x : List ℕ) → c ≡ length (comma i) → length (comma i ++ x) ≡ c + length x
comma-length i c x e = length-append (comma i) x ∙ ap (λ (n : ℕ). n + length x) (sym e)

leb-sub : (a b k : ℕ) → a ≤ b → leb (a + k) b ≡ leb k (b - a)
leb-sub a b k h = split (leb k (b - a)) (λ e. let l : k ≤ b - a = leb-true k (b - a) e in rw e (le-leb (a + k) b (omega arith)))
    (λ e. let l : b - a < k = leb-false k (b - a) e in rw e (lt-leb (a + k) b (omega arith)))

pub fits-start : (s ps : List ℕ) (room : ℕ) → fits_rest s ps 0 room ≡ leb (length (joined (map (counted s) ps))) room
unfolding fits_rest
fits-start s ps room = rw (left-start s ps)

module _ (s ps : List ℕ) (i left : ℕ) (r : Bool) (inv : fits_rest s ps i left ≡ r) where
  pub fits-end : length ps ≤ i → true ≡ r
  unfolding fits_rest
  fits-end h = sym (le-leb 0 left (omega arith)) ∙ (rw (left-nil s ps i h) at inv)

  module _ (h : i < length ps) (c : ℕ) (ce : c ≡ length (comma i)) (x : List ℕ) (xe : x ≡ counted s (get_or ps i 0)) where
    next-length : length (next_of s ps i) ≡ c + length x
    unfolding next_of
    next-length = rw xe (comma-length i c (counted s (get_or ps i 0)) ce)

    all-length : length (left_of s ps i) ≡ c + length x + length (left_of s ps (i + 1))
    all-length = rw (left-cons s ps i h) (length-append (next_of s ps i) (left_of s ps (i + 1)) ∙ ap (λ (m : ℕ). m + length (left_of s ps (i + 1))) next-length)

    pub fits-no-comma : left < c → false ≡ r
    unfolding fits_rest
    fits-no-comma l = sym (lt-leb (length (left_of s ps i)) left (omega (arith, all-length))) ∙ inv

    pub fits-no-item : left - c < length x → false ≡ r
    unfolding fits_rest
    fits-no-item l = sym (lt-leb (length (left_of s ps i)) left (omega (arith, all-length))) ∙ inv

    pub fits_more : c ≤ left → length x ≤ left - c → fits_rest s ps (i + 1) (left - c - length x) ≡ r
    unfolding fits_rest
    fits_more l k =
        let z : left - c - length x ≡ left - (c + length x) = omega arith in
        rw z (sym (leb-sub (c + length x) left (length (left_of s ps (i + 1))) (omega arith)) ∙ (rw all-length at inv))

-- the loop that writes: what is left to put from here is what was to put
pub record Joins (d₀ : List ℕ) (at : ℕ) (s ps d : List ℕ) (to i : ℕ) : Type 0 where
  pub room : to + length (left_of s ps i) ≤ length d
  pub puts : put d to (left_of s ps i) ≡ put d₀ at (joined (map (counted s) ps))

module _ (d : List ℕ) (at : ℕ) (x : List ℕ) (h : at + length x ≤ length d) where
  copy-fits : copy_at d at x ≡ copied true (put d at x)
  unfolding copy_at
  copy-fits = rw (le-leb (at + length x) (length d) h)

module _ (d₀ : List ℕ) (at : ℕ) (s ps : List ℕ) where
  pub joins-start : at + length (joined (map (counted s) ps)) ≤ length d₀ → Joins d₀ at s ps d₀ at 0
  joins-start h = record { room = rw (left-start s ps) h; puts = rw (left-start s ps) }

  module _ (d : List ℕ) (to i : ℕ) (inv : Joins d₀ at s ps d to i) where
    pub joins-end : length ps ≤ i → d ≡ put d₀ at (joined (map (counted s) ps))
    joins-end h = sym (put-nil d to) ∙ ap (λ (x : List ℕ). put d to x) (sym (left-nil s ps i h)) ∙ inv.puts

    module _ (h : i < length ps) (c : ℕ) (ce : c ≡ length (comma i)) (x : List ℕ) (xe : x ≡ counted s (get_or ps i 0)) where
      step-length : length (next_of s ps i) ≡ c + length x
      step-length = next-length s ps i 0 _ refl h c ce x xe

      step_room : to + (c + length x + length (left_of s ps (i + 1))) ≤ length d
      step_room = let z : length (left_of s ps i) ≡ c + length x + length (left_of s ps (i + 1)) = all-length s ps i 0 _ refl h c ce x xe in omega (arith, inv.room)

      pub joins-room : to + c + length x ≤ length d
      joins-room = omega (arith, step_room)

      module _ (t : Bool) (e : List ℕ) (is : copied t e ≡ copy_at d to (comma i ++ x)) where
        wrote : e ≡ put d to (next_of s ps i)
        unfolding next_of
        wrote =
            let l : to + length (comma i ++ x) ≤ length d = omega (arith, comma-length i c x ce, joins-room) in
            let q : copied t e ≡ copied true (put d to (comma i ++ x)) = is ∙ copy-fits d to (comma i ++ x) l in
            rw (← xe) (cc)

        pub joins-more : Joins d₀ at s ps e (to + c + length x) (i + 1)
        joins-more =
            let l : to + length (next_of s ps i) ≤ length d = omega (arith, step-length, joins-room) in
            let k : length e ≡ length d = ap length wrote ∙ put-length d to (next_of s ps i) l in
            let m : to + c + length x ≡ to + length (next_of s ps i) = omega (arith, step-length) in
            record {
              room = omega (arith, step_room);
              puts =
                  ap (λ (y : List ℕ). put y (to + c + length x) (left_of s ps (i + 1))) wrote
                  ∙ ap (λ (y : ℕ). put (put d to (next_of s ps i)) y (left_of s ps (i + 1))) m
                  ∙ sym (put-append d to (next_of s ps i) (left_of s ps (i + 1)) (omega arith))
                  ∙ ap (λ (y : List ℕ). put d to y) (sym (left-cons s ps i h))
                  ∙ inv.puts;
            }

-- the ways out of `join_at`
module _ (d : List ℕ) (at : ℕ) (s ps : List ℕ) where
  pub join-past : length d < at → copied false d ≡ copy_at d at (joined (map (counted s) ps))
  unfolding copy_at
  join-past h = rw (lt-leb (at + length (joined (map (counted s) ps))) (length d) (omega arith))

  module _ (in-d : at ≤ length d) (f : Bool) (fe : f ≡ leb (length (joined (map (counted s) ps))) (length d - at)) where
    pub join-room : f ≡ true → at + length (joined (map (counted s) ps)) ≤ length d
    join-room t = let l : length (joined (map (counted s) ps)) ≤ length d - at = leb-true _ _ (sym fe ∙ t) in omega arith

    pub join-put : f ≡ true → (e : List ℕ) → e ≡ put d at (joined (map (counted s) ps)) → copied true e ≡ copy_at d at (joined (map (counted s) ps))
    join-put t e is = rw is (sym (copy-fits d at (joined (map (counted s) ps)) (join-room t)))

    pub join-none : f ≡ false → copied false d ≡ copy_at d at (joined (map (counted s) ps))
    unfolding copy_at
    join-none t =
        let l : length d - at < length (joined (map (counted s) ps)) = leb-false _ _ (sym fe ∙ t) in
        rw (lt-leb (at + length (joined (map (counted s) ps))) (length d) (omega arith))

-- the ways out of `lead`
pub lead-first : (i : ℕ) → i ≡ 0 → 0 ≡ length (comma i)
unfolding comma
lead-first i z = rw z

pub lead-other : (i : ℕ) → (i ≡ 0 → ⊥) → 1 ≡ length (comma i)
lead-other i nz = rw (comma-is i nz)

pub lead-byte : (i : ℕ) → bool_byte (ltb 0 i) ≡ length (comma i)
unfolding comma
lead-byte zero = refl
lead-byte (suc i) = rw (lt-ltb 0 (suc i) (omega arith)) refl
