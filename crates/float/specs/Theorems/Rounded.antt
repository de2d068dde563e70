-- `round binary32`, by which the logic says what each operation of an `f32` gives, gives the nearest float: the pattern that is nearest to the
-- fraction, or the infinity where that pattern is not finite. Assumes nothing.
use Rattle.std.specs.Prelude.{◌≡◌, refl, ◌⊎◌, Bool, not, cond, T, eqb, Float}
use Rattle.std.proofs.Common.{sym, ap, ◌∙◌, subst, inl, inr, le_trans, le_of_eq, lt_of_lt_of_le, mul-le-mul_right, mul-div_cancel, eq-or-lt_of_le, lt_irrefl, arith, leb→le, eqb→eq, lit<, lit≤, pow_pos, pow-add, pow_mono, shl_lt, le-ltb}
use Prim.Native.Nat.{ℕ, ◌+◌, ◌-◌, ◌*◌, ◌/◌, ◌^◌, ◌≤◌, ◌<◌, compare, Ordering}
use Rattle.std.proofs.Math.Dec.{is_le, compare_is_eq, nleb→lt, eqb_refl}
use Rattle.std.specs.Float.{nan, inf, fin, binary32}
use Rattle.std.specs.Float.Ieee.{up, down, size, odd, units, to_bits}
use Rattle.std.specs.Float.Ieee.Digits.{size-lt, size-le}
use Rattle.std.specs.Float.Ieee.Fits.{down_pos}
use Rattle.std.specs.Float.Ieee.Exact.{HasValue}
use Rattle.float.specs.Working.Patterns.{val_at, split}
use Rattle.float.specs.Nearest.{val}

-- how two numbers stand, by what `compare` gives
abbrev pub Stands : Ordering → ℕ → ℕ → Type 0
Stands Ordering.lt m n = m < n
Stands Ordering.eq m n = m ≡ n
Stands Ordering.gt m n = n < m

told : (m n : ℕ) (o : Ordering) → compare m n ≡ o → Stands o m n
told m n Ordering.eq e = eqb→eq m n (subst (λ (p : Ordering). T (compare_is_eq p)) (sym e) tt)
told m n Ordering.gt e = nleb→lt m n (subst (λ (p : Ordering). T (not (is_le p))) (sym e) tt)
told m n Ordering.lt e =
    let at_most : m ≤ n = leb→le m n (subst (λ (p : Ordering). T (is_le p)) (sym e) tt) in
    let other : (m ≡ n → ⊥) = λ (z : m ≡ n). subst (λ (p : Ordering). T (compare_is_eq p)) e (subst (λ (k : ℕ). T (eqb m k)) z (eqb_refl m)) in
    omega arith

pub stands : (m n : ℕ) → Stands (compare m n) m n
stands m n = told m n (compare m n) refl

-- the bits of a value
pub bits_of : (v : Float) (s : Bool) (n : ℕ) → HasValue v s n (2 ^ 149) → to_bits binary32 v ≡ cond s 2147483648 0 + (size n - 24) * 8388608 + n / 2 ^ (size n - 24)
unfolding to_bits
bits_of nan s n h = absurd h
bits_of (inf t) s n h = absurd h
bits_of (fin t m e) s n h =
    let z : m * up e * 2 ^ 149 / down e ≡ n = ap (λ (x : ℕ). x / down e) h.1 ∙ mul-div_cancel n (down_pos e) in
    ap (λ (u : Bool). cond u 2147483648 0 + (size (m * up e * 2 ^ 149 / down e) - 24) * 8388608 + m * up e * 2 ^ 149 / down e / 2 ^ (size (m * up e * 2 ^ 149 / down e) - 24)) h.0
    ∙ ap (λ (x : ℕ). cond s 2147483648 0 + (size x - 24) * 8388608 + x / 2 ^ (size x - 24)) z

size-gt : (n j : ℕ) → 2 ^ j ≤ n → j < size n
size-gt n j h = elim (split j (size n)) [ inl l ↦ l | inr g ↦ absurd (lt_irrefl n (lt_of_lt_of_le (size-lt n) (le_trans (pow_mono g) h))) ]

-- m of at most 24 digits, with all of them unless k is 0, or 2 ^ 24 itself
dropped : (m k : ℕ) → m < 16777216 → (8388608 ≤ m) ⊎ (k ≡ 0) → size (m * 2 ^ k) - 24 ≡ k
dropped m k h (inl l) =
    let a : size (m * 2 ^ k) ≤ 24 + k = size-le (m * 2 ^ k) (24 + k) (shl_lt 24 k h) in
    let b : 23 + k < size (m * 2 ^ k) = size-gt (m * 2 ^ k) (23 + k) (le_trans (le_of_eq (pow-add 2 23 k)) (mul-le-mul_right (2 ^ k) l)) in
    omega arith
dropped m k h (inr z) =
    let a : size (m * 2 ^ k) ≤ 24 + k = size-le (m * 2 ^ k) (24 + k) (shl_lt 24 k h) in
    omega arith

dropped-top : (k : ℕ) → size (16777216 * 2 ^ k) - 24 ≡ k + 1
dropped-top k =
    let a : size (16777216 * 2 ^ k) ≤ 25 + k = size-le (16777216 * 2 ^ k) (25 + k) (shl_lt 25 k (lit< tt)) in
    let b : 24 + k < size (16777216 * 2 ^ k) = size-gt (16777216 * 2 ^ k) (24 + k) (le_of_eq (pow-add 2 24 k)) in
    omega arith

half-top : (k : ℕ) → 16777216 * 2 ^ k / 2 ^ (k + 1) ≡ 8388608
half-top k = ap (λ (x : ℕ). x / 2 ^ (k + 1)) (sym (two-more k)) ∙ mul-div_cancel 8388608 (pow_pos (k + 1))
  where
    two-more : (j : ℕ) → 8388608 * 2 ^ (j + 1) ≡ 16777216 * 2 ^ j
    two-more j = ap (λ (x : ℕ). 8388608 * x) (pow-add 2 j 1) ∙ omega arith

pub bits-kept : (m k : ℕ) → m ≤ 16777216 → (8388608 ≤ m) ⊎ (k ≡ 0) → (size (m * 2 ^ k) - 24) * 8388608 + m * 2 ^ k / 2 ^ (size (m * 2 ^ k) - 24) ≡ k * 8388608 + m
bits-kept m k h f = elim (eq-or-lt_of_le h) [
  | inl e ↦
      ap (λ (z : ℕ). (size (z * 2 ^ k) - 24) * 8388608 + z * 2 ^ k / 2 ^ (size (z * 2 ^ k) - 24)) e
      ∙ ap (λ (z : ℕ). z * 8388608 + 16777216 * 2 ^ k / 2 ^ z) (dropped-top k)
      ∙ ap (λ (z : ℕ). (k + 1) * 8388608 + z) (half-top k)
      ∙ omega arith
  | inr l ↦
      ap (λ (z : ℕ). z * 8388608 + m * 2 ^ k / 2 ^ z) (dropped m k l f)
      ∙ ap (λ (z : ℕ). k * 8388608 + z) (mul-div_cancel m (pow_pos k))
]

pub units-over : (s : Bool) (q k : ℕ) → 2 ^ 277 ≤ q * 2 ^ k → units binary32 s q k ≡ inf s
unfolding units
units-over s q k h = ap (λ (t : Bool). cond t (odd 25 s q k 149) (inf s)) (le-ltb (q * 2 ^ k) (2 ^ 277) h)

-- the two readings of `round`
pub top_val : val 2139095040 ≡ 2 ^ 277
top_val = val_at 253 16777216 (lit≤ tt) (inl (lit≤ tt))
