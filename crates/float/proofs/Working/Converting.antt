-- Working laws: what the parts of `nearest_to` give, and that together they give the nearest float. Assumes nothing.
use Rattle.std.specs.Prelude.{◌≡◌, Bool, true, false}
use Rattle.std.proofs.Common.{sym, ap, ◌∙◌, subst, inl, add-mul, one-mul, le_trans, mul_comm, mul_assoc, mul_right_comm, mul-pos, mul-lt-mul_of_pos_right, le_of_mul-le-mul_right, lt_of_mul-lt-mul_right, zero-add, arith, lit<, Fits, pow_pos}
use Prim.Native.Nat.{ℕ, ◌+◌, ◌-◌, ◌*◌, ◌^◌, ◌≤◌, ◌<◌, compare, Ordering}
use Rattle.std.proofs.Math.Nat.{eq_of_mul-eq-mul_right}
use Rattle.std.specs.Float.Ieee.Fits.{nearest-le}
use Rattle.std.specs.Int.{w64, w32}
use Rattle.std.specs.Float.{binary32}
use Rattle.std.specs.Float.Ieee.{nearest, round, neg, of_bits}
use Rattle.float.specs.Nearest.{Nearest}
use Rattle.float.specs.Decimal.{decimal}
use Rattle.float.specs.Theorems.Rounded.{Stands, stands}
use Rattle.float.proofs.Theorems.Rounded.{by_order, round-of}
use Rattle.float.specs.declared.decimal.Scaled.{Scaled}
use Rattle.float.specs.declared.decimal.Cut.{Cut}
use Rattle.float.specs.Working.Converting.{Divided, Found, Level, Over, Under, chain, few-digits, full-digits, in-range, round-neg, ten-pos, zero-nearest}

pub divided-made : (a b q r i : ℕ) → i ≤ 8 → 8 ≤ i → r < b → q * b + r ≡ a * 2 ^ (3 * i) → Divided a b (record { digits = q; rest = r })
divided-made a b q r i h k l e = let n : i ≡ 8 = omega arith in record { rest_lt = l; same = subst (λ (z : ℕ). q * b + r ≡ a * 2 ^ (3 * z)) n e }

-- the end: x / c is (q + r / b) * 2 ^ j
module _ (x c b j q r : ℕ) (C : 0 < c) (few : q < 16777216) (full : 8388608 ≤ q) (e : x * b ≡ (q * b + r) * (2 ^ j * c)) (rb : r < b) where
  b-pos : 0 < b
  b-pos = omega arith

  turned : (n : ℕ) → n * 2 ^ j * c * b ≡ n * b * (2 ^ j * c)
  turned n = ap (λ (z : ℕ). z * b) (mul_assoc n (2 ^ j) c) ∙ mul_right_comm n (2 ^ j * c) b

  parts-of : (q * b + r) * (2 ^ j * c) ≡ q * b * (2 ^ j * c) + r * (2 ^ j * c)
  parts-of = add-mul (q * b) r (2 ^ j * c)

  lo : q * 2 ^ j * c ≤ x
  lo = let h : q * 2 ^ j * c * b ≤ x * b = omega (arith, turned q, parts-of) in le_of_mul-le-mul_right h b-pos

  hi : x < (q + 1) * 2 ^ j * c
  hi =
      let m : r * (2 ^ j * c) < b * (2 ^ j * c) = mul-lt-mul_of_pos_right rb (mul-pos (pow_pos j) C) in
      let n : (q + 1) * b * (2 ^ j * c) ≡ q * b * (2 ^ j * c) + b * (2 ^ j * c) = ap (λ (z : ℕ). z * (2 ^ j * c)) (add-mul q 1 b ∙ ap (λ (z : ℕ). q * b + z) (one-mul b)) ∙ add-mul (q * b) b (2 ^ j * c) in
      let h : x * b < (q + 1) * 2 ^ j * c * b = omega (arith, turned (q + 1), parts-of) in
      lt_of_mul-lt-mul_right b h

  rest : (x - q * 2 ^ j * c) * b ≡ r * (2 ^ j * c)
  rest =
      let y : x ≡ q * 2 ^ j * c + (x - q * 2 ^ j * c) = omega (arith, lo) in
      let z : x * b ≡ q * 2 ^ j * c * b + (x - q * 2 ^ j * c) * b = ap (λ (v : ℕ). v * b) y ∙ add-mul (q * 2 ^ j * c) (x - q * 2 ^ j * c) b in
      omega (arith, turned q, parts-of)

  twice : (x - q * 2 ^ j * c) * 2 * b ≡ r * 2 * (2 ^ j * c)
  twice = mul_right_comm (x - q * 2 ^ j * c) 2 b ∙ ap (λ (v : ℕ). v * 2) rest ∙ mul_right_comm r (2 ^ j * c) 2

  order : (o : Ordering) → Stands o (r * 2) b → Stands o ((x - q * 2 ^ j * c) * 2) (2 ^ j * c)
  order Ordering.lt h = lt_of_mul-lt-mul_right b (subst (λ (v : ℕ). v < 2 ^ j * c * b) (sym twice) (subst (λ (v : ℕ). r * 2 * (2 ^ j * c) < v) (mul_comm b (2 ^ j * c)) (mul-lt-mul_of_pos_right h (mul-pos (pow_pos j) C))))
  order Ordering.eq h = eq_of_mul-eq-mul_right b b-pos ((x - q * 2 ^ j * c) * 2) (2 ^ j * c) (twice ∙ ap (λ (v : ℕ). v * (2 ^ j * c)) h ∙ mul_comm b (2 ^ j * c))
  order Ordering.gt h = lt_of_mul-lt-mul_right b (subst (λ (v : ℕ). 2 ^ j * c * b < v) (sym twice) (subst (λ (v : ℕ). v < r * 2 * (2 ^ j * c)) (mul_comm b (2 ^ j * c)) (mul-lt-mul_of_pos_right h (mul-pos (pow_pos j) C))))

  lands : Nearest x c (j * 8388608 + nearest q (compare (r * 2) b))
  lands = by_order x c j q C few (inl full) lo hi (compare (r * 2) b) (order (compare (r * 2) b) (stands (r * 2) b))

pub settles : (n c b k a j q r : ℕ) → 0 < c → Level k c b → a * 2 ^ j ≡ n * 2 ^ k → q * b + r ≡ a * 2 ^ 24 → r < b → a < b → b ≤ a * 2
    → Nearest (n * 2 ^ 149) c (j * 8388608 + nearest q (compare (r * 2) b))
unfolding Level
settles n c b k a j q r C e f g rb ab ba =
    lands (n * 2 ^ 149) c b j q r C (few-digits a b q r g ab) (full-digits a b q r g rb ba) (chain n a c b (2 ^ j) (2 ^ k) (2 ^ 24) (2 ^ 125) (q * b + r) e f g) rb

-- what `pattern` gives
pub found-zero : (a c : ℕ) → a ≡ 0 → Found a c 0
found-zero a c e = record { finite = lit< tt; nearest-to = subst (λ (z : ℕ). Nearest (z * 2 ^ 149) c 0) (sym e) (zero-nearest c) }

-- the parts of `pattern`, put together
module _ (a c : ℕ) (A : (a ≡ 0) → ⊥) (C : 0 < c) (s u : Scaled) (hs : Under a c s) (hu : Over a s.under s.place u) (d : Cut) (hd : Divided u.over s.under d) (m : ℕ) (hm : m ≡ nearest d.digits (compare (d.rest * 2) s.under)) where
  pub digits-few : d.digits < 16777216
  digits-few = few-digits u.over s.under d.digits d.rest hd.same hu.below

  m-few : m ≤ 16777216
  m-few = subst (λ (z : ℕ). z ≤ 16777216) (sym hm) (le_trans (nearest-le d.digits (compare (d.rest * 2) s.under)) digits-few)

  pub pattern-small : u.place * 8388608 + m < 2139095040
  pattern-small = in-range u.place s.place m hu.place-le hs.high m-few

  pub pattern-fits : Fits w64 (u.place * 8388608 + m)
  pattern-fits = let h : u.place * 8388608 + m < 2139095040 = pattern-small in record { fits = omega arith }

  pub pattern-narrow : Fits w32 (u.place * 8388608 + m)
  pattern-narrow = let h : u.place * 8388608 + m < 2139095040 = pattern-small in record { fits = omega arith }

  pub found : Found a c (u.place * 8388608 + m)
  found = record {
    finite = pattern-small;
    nearest-to = subst (λ (z : ℕ). Nearest (a * 2 ^ 149) c (u.place * 8388608 + z)) (sym hm) (settles a c s.under s.place u.over u.place d.digits d.rest C hs.same hu.same hd.same hd.rest_lt hu.below hu.half);
  }

pub found-float : (a k c p : ℕ) → c ≡ 10 ^ k → Found a c p → of_bits binary32 p ≡ decimal false a k
unfolding decimal
found-float a k c p e f = sym (ap (round binary32 false a) (sym e) ∙ round-of false a c p (subst (λ (z : ℕ). 0 < z) (sym e) (ten-pos k)) f.nearest-to f.finite ∙ ap (of_bits binary32) (zero-add p))

pub found-negative : (a k c p : ℕ) → c ≡ 10 ^ k → Found a c p → neg (of_bits binary32 p) ≡ decimal true a k
unfolding decimal
found-negative a k c p e f = ap neg (found-float a k c p e f) ∙ round-neg a (10 ^ k)

module _ (s : Bool) (a k c p : ℕ) (e : c ≡ 10 ^ k) (f : Found a c p) where
  pub gives : s ≡ false → of_bits binary32 p ≡ decimal s a k
  gives g = found-float a k c p e f ∙ ap (λ (z : Bool). decimal z a k) (sym g)

  pub gives-negative : s ≡ true → neg (of_bits binary32 p) ≡ decimal s a k
  gives-negative g = found-negative a k c p e f ∙ ap (λ (z : Bool). decimal z a k) (sym g)
