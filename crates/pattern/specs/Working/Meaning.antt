-- What the parser's parts and table say of a tree: they are its sets of places. Assumes nothing.
use Rattle.std.specs.Prelude.{◌≡◌, refl, Bool, true, false, ◌&&◌, ◌||◌, List, ℕ, ◌+◌, ◌*◌, ◌<◌, ◌≤◌, eqb, ltb, length, get_or}
use Rattle.std.proofs.Common.{sym, arith, length-set, get_or-set_same, get_or-set_other}
use Rattle.std.specs.Int.Bits.{bit_or}
use borrow.Author.Tests.{lt-ltb, eqb-true, eqb-false}
use Rattle.text.specs.Choice.{split}
use Rattle.pattern.specs.Tree.{Re, bol, eol, one, cat, alt, star, plus, opt}
use Rattle.pattern.specs.Working.Sets.{nul, first, last, Fits, f-bol, f-eol, f-one, f-cat, f-alt, f-star, f-plus, f-opt, fits_le}
use Rattle.pattern.specs.Working.Places.{join, gated, start_part, end_part, byte_part, sequence, choice, or_empty, or_at, word_at, add_row, row, link}
use Rattle.pattern.specs.Working.Bits.{has, has-nowhere, has_join, has-gated, has-only}
use Rattle.pattern.specs.declared.places.Places.{Places}
use Rattle.pattern.specs.declared.places.Part.{Part}

unfoldable pub part_of : Re → Part
part_of bol = start_part
part_of eol = end_part
part_of (one q c) = byte_part q
part_of (cat a b) = sequence (part_of a) (part_of b)
part_of (alt a b) = choice (part_of a) (part_of b)
part_of (star a) = or_empty (part_of a)
part_of (plus a) = part_of a
part_of (opt a) = or_empty (part_of a)

unfoldable pub table_of : Re → List ℕ → List ℕ
table_of bol t = t
table_of eol t = t
table_of (one q c) t = t
table_of (cat a b) t = link (table_of b (table_of a t)) (part_of a).lm (part_of b).fm
table_of (alt a b) t = table_of b (table_of a t)
table_of (star a) t = link (table_of a t) (part_of a).lm (part_of a).fm
table_of (plus a) t = link (table_of a t) (part_of a).lm (part_of a).fm
table_of (opt a) t = table_of a t

pub nb-is : (r : Re) → (part_of r).nb ≡ nul true true r
unfolding part_of nul start_part end_part byte_part sequence choice or_empty
nb-is bol = refl
nb-is eol = refl
nb-is (one q c) = refl
nb-is (cat a b) = rw (nb-is a, nb-is b)
nb-is (alt a b) = rw (nb-is a, nb-is b)
nb-is (star a) = refl
nb-is (plus a) = nb-is a
nb-is (opt a) = refl

pub ns-is : (r : Re) → (part_of r).ns ≡ nul true false r
unfolding part_of nul start_part end_part byte_part sequence choice or_empty
ns-is bol = refl
ns-is eol = refl
ns-is (one q c) = refl
ns-is (cat a b) = rw (ns-is a, ns-is b)
ns-is (alt a b) = rw (ns-is a, ns-is b)
ns-is (star a) = refl
ns-is (plus a) = ns-is a
ns-is (opt a) = refl

pub nm-is : (r : Re) → (part_of r).nm ≡ nul false false r
unfolding part_of nul start_part end_part byte_part sequence choice or_empty
nm-is bol = refl
nm-is eol = refl
nm-is (one q c) = refl
nm-is (cat a b) = rw (nm-is a, nm-is b)
nm-is (alt a b) = rw (nm-is a, nm-is b)
nm-is (star a) = refl
nm-is (plus a) = nm-is a
nm-is (opt a) = refl

pub ne-is : (r : Re) → (part_of r).ne ≡ nul false true r
unfolding part_of nul start_part end_part byte_part sequence choice or_empty
ne-is bol = refl
ne-is eol = refl
ne-is (one q c) = refl
ne-is (cat a b) = rw (ne-is a, ne-is b)
ne-is (alt a b) = rw (ne-is a, ne-is b)
ne-is (star a) = refl
ne-is (plus a) = ne-is a
ne-is (opt a) = refl

module _ {ok : ℕ → ℕ → Bool} where
  pub fs-is : {lo hi : ℕ} {r : Re} → Fits ok lo hi r → hi ≤ 256 → (k : ℕ) → k < 256 → has (part_of r).fs k ≡ first true false r k
  unfolding part_of first start_part end_part byte_part sequence choice or_empty
  fs-is (f-bol h) l k e = has-nowhere k
  fs-is (f-eol h) l k e = has-nowhere k
  fs-is (f-one {at = at} h g o) l k e = has-only at k (omega arith) e
  fs-is (f-cat {a = a} {b = b} m f g) l k e = rw (has_join (part_of a).fs (gated (part_of a).ns (part_of b).fs) k, has-gated (part_of a).ns (part_of b).fs k, ns-is a, fs-is f (omega (arith, fits_le g)) k e, fs-is g l k e)
  fs-is (f-alt {a = a} {b = b} m f g) l k e = rw (has_join (part_of a).fs (part_of b).fs k, fs-is f (omega (arith, fits_le g)) k e, fs-is g l k e)
  fs-is (f-star f) l k e = fs-is f l k e
  fs-is (f-plus f) l k e = fs-is f l k e
  fs-is (f-opt f) l k e = fs-is f l k e

  pub fm-is : {lo hi : ℕ} {r : Re} → Fits ok lo hi r → hi ≤ 256 → (k : ℕ) → k < 256 → has (part_of r).fm k ≡ first false false r k
  unfolding part_of first start_part end_part byte_part sequence choice or_empty
  fm-is (f-bol h) l k e = has-nowhere k
  fm-is (f-eol h) l k e = has-nowhere k
  fm-is (f-one {at = at} h g o) l k e = has-only at k (omega arith) e
  fm-is (f-cat {a = a} {b = b} m f g) l k e = rw (has_join (part_of a).fm (gated (part_of a).nm (part_of b).fm) k, has-gated (part_of a).nm (part_of b).fm k, nm-is a, fm-is f (omega (arith, fits_le g)) k e, fm-is g l k e)
  fm-is (f-alt {a = a} {b = b} m f g) l k e = rw (has_join (part_of a).fm (part_of b).fm k, fm-is f (omega (arith, fits_le g)) k e, fm-is g l k e)
  fm-is (f-star f) l k e = fm-is f l k e
  fm-is (f-plus f) l k e = fm-is f l k e
  fm-is (f-opt f) l k e = fm-is f l k e

  pub lm-is : {lo hi : ℕ} {r : Re} → Fits ok lo hi r → hi ≤ 256 → (k : ℕ) → k < 256 → has (part_of r).lm k ≡ last false false r k
  unfolding part_of last start_part end_part byte_part sequence choice or_empty
  lm-is (f-bol h) l k e = has-nowhere k
  lm-is (f-eol h) l k e = has-nowhere k
  lm-is (f-one {at = at} h g o) l k e = has-only at k (omega arith) e
  lm-is (f-cat {a = a} {b = b} m f g) l k e = rw (has_join (part_of b).lm (gated (part_of b).nm (part_of a).lm) k, has-gated (part_of b).nm (part_of a).lm k, nm-is b, lm-is f (omega (arith, fits_le g)) k e, lm-is g l k e)
  lm-is (f-alt {a = a} {b = b} m f g) l k e = rw (has_join (part_of a).lm (part_of b).lm k, lm-is f (omega (arith, fits_le g)) k e, lm-is g l k e)
  lm-is (f-star f) l k e = lm-is f l k e
  lm-is (f-plus f) l k e = lm-is f l k e
  lm-is (f-opt f) l k e = lm-is f l k e

  pub le_is : {lo hi : ℕ} {r : Re} → Fits ok lo hi r → hi ≤ 256 → (k : ℕ) → k < 256 → has (part_of r).le k ≡ last false true r k
  unfolding part_of last start_part end_part byte_part sequence choice or_empty
  le_is (f-bol h) l k e = has-nowhere k
  le_is (f-eol h) l k e = has-nowhere k
  le_is (f-one {at = at} h g o) l k e = has-only at k (omega arith) e
  le_is (f-cat {a = a} {b = b} m f g) l k e = rw (has_join (part_of b).le (gated (part_of b).ne (part_of a).le) k, has-gated (part_of b).ne (part_of a).le k, ne-is b, le_is f (omega (arith, fits_le g)) k e, le_is g l k e)
  le_is (f-alt {a = a} {b = b} m f g) l k e = rw (has_join (part_of a).le (part_of b).le k, le_is f (omega (arith, fits_le g)) k e, le_is g l k e)
  le_is (f-star f) l k e = le_is f l k e
  le_is (f-plus f) l k e = le_is f l k e
  le_is (f-opt f) l k e = le_is f l k e

or-false : (a : Bool) → a ≡ a || false
or-false true = refl
or-false false = refl

-- the table: length, and rows
pub or-at-length : (t : List ℕ) (i x : ℕ) → length (or_at t i x) ≡ length t
unfolding or_at
or-at-length t i x = split (ltb i (length t)) (λ e. rw e (length-set t i _)) (λ e. rw e)

or-at-same : (t : List ℕ) (i x : ℕ) → i < length t → word_at (or_at t i x) i ≡ bit_or (word_at t i) x
unfolding or_at word_at
or-at-same t i x h = rw (lt-ltb _ _ h, length-set t i (bit_or (get_or t i 0) x), lt-ltb _ _ h, get_or-set_same t i (bit_or (get_or t i 0) x) 0 h)

or-at-other : (t : List ℕ) (i x j : ℕ) → (j ≡ i → ⊥) → word_at (or_at t i x) j ≡ word_at t j
unfolding or_at word_at
or-at-other t i x j n = split (ltb i (length t)) (λ e. rw (e, length-set t i (bit_or (get_or t i 0) x), get_or-set_other t i j (bit_or (get_or t i 0) x) 0 n)) (λ e. rw e)

pub add-row-length : (t : List ℕ) (q : ℕ) (x : Places) → length (add_row t q x) ≡ length t
unfolding add_row
add-row-length t q x = split (ltb q 256) (λ e. rw (e, or-at-length, or-at-length, or-at-length, or-at-length)) (λ e. rw e)

module _ (t : List ℕ) (q : ℕ) (x : Places) (h : q < 256) where
  add-other : (w : ℕ) → (w ≡ 4 * q → ⊥) → (w ≡ 4 * q + 1 → ⊥) → (w ≡ 4 * q + 2 → ⊥) → (w ≡ 4 * q + 3 → ⊥) → word_at (add_row t q x) w ≡ word_at t w
  unfolding add_row
  add-other w n₀ n₁ n₂ n₃ = rw (
    lt-ltb _ _ h,
    or-at-other (or_at (or_at (or_at t (4 * q) x.a) (4 * q + 1) x.b) (4 * q + 2) x.c) (4 * q + 3) x.d w n₃,
    or-at-other (or_at (or_at t (4 * q) x.a) (4 * q + 1) x.b) (4 * q + 2) x.c w n₂,
    or-at-other (or_at t (4 * q) x.a) (4 * q + 1) x.b w n₁,
    or-at-other t (4 * q) x.a w n₀,
  )

  add-row-other : (p : ℕ) → (p ≡ q → ⊥) → row (add_row t q x) p ≡ row t p
  unfolding row
  add-row-other p n = rw (
    add-other (4 * p) (λ z. n (omega arith)) (λ z. omega arith) (λ z. omega arith) (λ z. omega arith),
    add-other (4 * p + 1) (λ z. omega arith) (λ z. n (omega arith)) (λ z. omega arith) (λ z. omega arith),
    add-other (4 * p + 2) (λ z. omega arith) (λ z. omega arith) (λ z. n (omega arith)) (λ z. omega arith),
    add-other (4 * p + 3) (λ z. omega arith) (λ z. omega arith) (λ z. omega arith) (λ z. n (omega arith)),
  )

  module _ (l : 1024 ≤ length t) where
    add-0 : word_at (add_row t q x) (4 * q) ≡ bit_or (word_at t (4 * q)) x.a
    unfolding add_row
    add-0 = rw (
      lt-ltb _ _ h,
      or-at-other (or_at (or_at (or_at t (4 * q) x.a) (4 * q + 1) x.b) (4 * q + 2) x.c) (4 * q + 3) x.d (4 * q) (λ z. omega arith),
      or-at-other (or_at (or_at t (4 * q) x.a) (4 * q + 1) x.b) (4 * q + 2) x.c (4 * q) (λ z. omega arith),
      or-at-other (or_at t (4 * q) x.a) (4 * q + 1) x.b (4 * q) (λ z. omega arith),
    ) (or-at-same t (4 * q) x.a (omega arith))

    add-1 : word_at (add_row t q x) (4 * q + 1) ≡ bit_or (word_at t (4 * q + 1)) x.b
    unfolding add_row
    add-1 = rw (
      lt-ltb _ _ h,
      or-at-other (or_at (or_at (or_at t (4 * q) x.a) (4 * q + 1) x.b) (4 * q + 2) x.c) (4 * q + 3) x.d (4 * q + 1) (λ z. omega arith),
      or-at-other (or_at (or_at t (4 * q) x.a) (4 * q + 1) x.b) (4 * q + 2) x.c (4 * q + 1) (λ z. omega arith),
      or-at-same (or_at t (4 * q) x.a) (4 * q + 1) x.b (omega (arith, or-at-length t (4 * q) x.a)),
      or-at-other t (4 * q) x.a (4 * q + 1) (λ z. omega arith),
    )

    add-2 : word_at (add_row t q x) (4 * q + 2) ≡ bit_or (word_at t (4 * q + 2)) x.c
    unfolding add_row
    add-2 = rw (
      lt-ltb _ _ h,
      or-at-other (or_at (or_at (or_at t (4 * q) x.a) (4 * q + 1) x.b) (4 * q + 2) x.c) (4 * q + 3) x.d (4 * q + 2) (λ z. omega arith),
      or-at-same (or_at (or_at t (4 * q) x.a) (4 * q + 1) x.b) (4 * q + 2) x.c (omega (arith, or-at-length t (4 * q) x.a, or-at-length (or_at t (4 * q) x.a) (4 * q + 1) x.b)),
      or-at-other (or_at t (4 * q) x.a) (4 * q + 1) x.b (4 * q + 2) (λ z. omega arith),
      or-at-other t (4 * q) x.a (4 * q + 2) (λ z. omega arith),
    )

    add-3 : word_at (add_row t q x) (4 * q + 3) ≡ bit_or (word_at t (4 * q + 3)) x.d
    unfolding add_row
    add-3 = rw (
      lt-ltb _ _ h,
      or-at-same (or_at (or_at (or_at t (4 * q) x.a) (4 * q + 1) x.b) (4 * q + 2) x.c) (4 * q + 3) x.d (omega (arith, or-at-length t (4 * q) x.a, or-at-length (or_at t (4 * q) x.a) (4 * q + 1) x.b, or-at-length (or_at (or_at t (4 * q) x.a) (4 * q + 1) x.b) (4 * q + 2) x.c)),
      or-at-other (or_at (or_at t (4 * q) x.a) (4 * q + 1) x.b) (4 * q + 2) x.c (4 * q + 3) (λ z. omega arith),
      or-at-other (or_at t (4 * q) x.a) (4 * q + 1) x.b (4 * q + 3) (λ z. omega arith),
      or-at-other t (4 * q) x.a (4 * q + 3) (λ z. omega arith),
    )

    add-row-same : row (add_row t q x) q ≡ join (row t q) x
    unfolding row join
    add-row-same = rw (lt-ltb _ _ h, add-0, add-1, add-2, add-3)

    pub add-row-has : (p k : ℕ) → has (row (add_row t q x) p) k ≡ has (row t p) k || (eqb q p && has x k)
    add-row-has p k = split (eqb q p)
        (λ e. rw (e, ← eqb-true q p e, add-row-same) (has_join (row t q) x k))
        (λ e. rw (e, add-row-other p (λ z. eqb-false q p e (sym z))) (or-false (has (row t p) k)))
