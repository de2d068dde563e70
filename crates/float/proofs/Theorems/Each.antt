-- "Each operation rounds once": on finite operands the exact sum, product or quotient is a fraction a / c of whole numbers with a sign, and the
-- result is the float nearest to it, of two equally near the even one, or the infinity of that sign where the nearest pattern is none of a finite float. Assumes nothing.
use Rattle.std.specs.Prelude.{◌≡◌, refl, Bool, true, false, cond, ◌&&◌, ℕ, ◌+◌, ◌-◌, ◌*◌, ◌<◌, eqb, ltb, ℤ}
use Rattle.std.proofs.Common.{sym, subst, inl, inr, true≢false, mul-pos, le_antisymm, arith, ne_eqb, lt-ltb, le-ltb}
use Rattle.std.proofs.lemmas.Bool.{false≢true}
use Rattle.std.specs.Float.{nan, inf, fin, binary32}
use Rattle.std.specs.Float.Ieee.{up, down, unlike, round, add, sum, mul, div}
use Rattle.std.specs.Float.Ieee.Fits.{down_pos, up_pos}
use Rattle.float.specs.Working.Patterns.{split}
use Rattle.float.specs.Operations.{is_finite, checked, plus, minus, times}
use Rattle.float.specs.Operations as Operations
use Rattle.float.proofs.Theorems.Rounded.{nearest_bits, nearest-is, round-of, round-over}
use Rattle.float.specs.Theorems.Each.{Once, PlusOnce, RoundedTo, Total, finite, left, like, nothing, once, over, right, some}

pub rounded-once : (s : Bool) (a c : ℕ) → 0 < c → RoundedTo s a c (round binary32 s a c)
rounded-once s a c C =
    let b = nearest_bits a c C in
    let n = nearest-is a c C in
    elim (split b 2139095040) [ inl h ↦ finite b n h (round-of s a c b C n h) | inr h ↦ over b n h (round-over s a c b C n h) ]

pub product : (s t : Bool) (m n : ℕ) (e d : ℤ) → RoundedTo (unlike s t) (m * up e * (n * up d)) (down e * down d) (mul binary32 (fin s m e) (fin t n d))
unfolding mul
product s t m n e d = rounded-once (unlike s t) (m * up e * (n * up d)) (down e * down d) (mul-pos (down_pos e) (down_pos d))

pub quotient : (s t : Bool) (m n : ℕ) (e d : ℤ) → (n ≡ 0 → ⊥) → RoundedTo (unlike s t) (m * up e * down d) (n * up d * down e) (div binary32 (fin s m e) (fin t n d))
unfolding div
quotient s t m n e d h =
    subst (λ (z : Bool). RoundedTo (unlike s t) (m * up e * down d) (n * up d * down e) (cond z (cond (eqb m 0) nan (inf (unlike s t))) (round binary32 (unlike s t) (m * up e * down d) (n * up d * down e)))) (sym (ne_eqb n 0 h))
    (rounded-once (unlike s t) (m * up e * down d) (n * up d * down e) (mul-pos (mul-pos (some n h) (up_pos d)) (down_pos e)))

unlike-sum : (s : Bool) (a : ℕ) (t : Bool) (b c : ℕ) → 0 < c → (s ≡ t → ⊥) → Total s a t b c (cond (ltb a b) (round binary32 t (b - a) c) (round binary32 (s && ltb b a) (a - b) c))
unlike-sum s a t b c C n = elim (split a b) [
  | inl h ↦ record { sign = t; number = b - a; exact = right n h; once = rw (lt-ltb a b h) (rounded-once t (b - a) c C) }
  | inr g ↦ elim (split b a) [
    | inl h ↦ record { sign = s; number = a - b; exact = left n h; once = rw (le-ltb a b g, lt-ltb b a h, and-true s) (rounded-once s (a - b) c C) }
    | inr h ↦
        let e : a ≡ b = le_antisymm h g in
        let z : a - b ≡ 0 = omega arith in
        record { sign = false; number = 0; exact = nothing n e; once = rw (le-ltb a b g, le-ltb b a h, and-false s, z) (rounded-once false 0 c C) }
  ]
]
  where
    and-true : (s : Bool) → (s && true) ≡ s
    and-true true = refl
    and-true false = refl

    and-false : (s : Bool) → (s && false) ≡ false
    and-false true = refl
    and-false false = refl

pub total : (s t : Bool) (m n : ℕ) (e d : ℤ) → Total s (m * up e * down d) t (n * up d * down e) (down e * down d) (add binary32 (fin s m e) (fin t n d))
unfolding add sum
total s t m n e d = go s t
  where
    C : 0 < down e * down d
    C = mul-pos (down_pos e) (down_pos d)

    go : (s t : Bool) → Total s (m * up e * down d) t (n * up d * down e) (down e * down d) (add binary32 (fin s m e) (fin t n d))
    go true true = record { sign = true; number = m * up e * down d + n * up d * down e; exact = like refl; once = rounded-once true (m * up e * down d + n * up d * down e) (down e * down d) C }
    go false false = record { sign = false; number = m * up e * down d + n * up d * down e; exact = like refl; once = rounded-once false (m * up e * down d + n * up d * down e) (down e * down d) C }
    go true false = unlike-sum true (m * up e * down d) false (n * up d * down e) (down e * down d) C true≢false
    go false true = unlike-sum false (m * up e * down d) true (n * up d * down e) (down e * down d) C false≢true

pub times-once : (s t : Bool) (m n : ℕ) (e d : ℤ) → Once (unlike s t) (m * up e * (n * up d)) (down e * down d) (times (fin s m e) (fin t n d))
unfolding times
times-once s t m n e d = once (unlike s t) (m * up e * (n * up d)) (down e * down d) (mul binary32 (fin s m e) (fin t n d)) (product s t m n e d)

pub over-once : (s t : Bool) (m n : ℕ) (e d : ℤ) → (n ≡ 0 → ⊥) → Once (unlike s t) (m * up e * down d) (n * up d * down e) (Operations.over (fin s m e) (fin t n d))
unfolding Operations.over
over-once s t m n e d h = once (unlike s t) (m * up e * down d) (n * up d * down e) (div binary32 (fin s m e) (fin t n d)) (quotient s t m n e d h)

pub plus-once : (s t : Bool) (m n : ℕ) (e d : ℤ) → PlusOnce s (m * up e * down d) t (n * up d * down e) (down e * down d) (plus (fin s m e) (fin t n d))
unfolding plus
plus-once s t m n e d =
    let z = total s t m n e d in
    record { sign = z.sign; number = z.number; exact = z.exact; rounded = once z.sign z.number (down e * down d) (add binary32 (fin s m e) (fin t n d)) z.once }
