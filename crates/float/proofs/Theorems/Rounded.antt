-- `round binary32`, by which the logic says what each operation of an `f32` gives, gives the nearest float: the pattern that is nearest to the
-- fraction, or the infinity where that pattern is not finite. Assumes nothing.
use Rattle.std.specs.Prelude.{◌≡◌, ◌⊎◌, Bool, cond, Float}
use Rattle.std.proofs.Common.{sym, ap, ◌∙◌, subst, inl, inr, div-le_self, add_assoc, suc-mul, le_trans, le_of_eq, lt_of_lt_of_le, lt_of_le_of_lt, mul_comm, mul_assoc, mul-pos, div-mul-le_self, div-add-mod', le-div_iff_mul-le, arith, add-one, pow_pos, pow-add, shl_lt}
use Prim.Native.Nat.{ℕ, suc, ◌+◌, ◌-◌, ◌*◌, ◌/◌, ◌%◌, ◌^◌, ◌≤◌, ◌<◌, compare, Ordering}
use Rattle.std.proofs.Math.Nat.{div-div-eq-div-mul, lt-div-mul-add}
use Rattle.std.specs.Float.{inf, binary32}
use Rattle.std.specs.Float.Ieee.{size, nearest, units, round, to_bits, of_bits}
use Rattle.std.specs.Float.Ieee.Digits.{size-le, size_reaches}
use Rattle.std.specs.Float.Ieee.Fits.{round_is, round-fits, kept-lt, nearest-le}
use Rattle.std.specs.Float.Ieee.Exact.{HasValue, units_val}
use Rattle.std.specs.Float.Ieee.Nearest.{closest, nearest-ge}
use Rattle.std.specs.Float.Ieee.Bits.{of_bits-to_bits}
use Rattle.float.specs.Working.Patterns.{val_at, val-lt, val-le, split}
use Rattle.float.specs.Nearest.{val, Nearest}
use Rattle.float.specs.Theorems.Only.{only}
use Rattle.float.specs.Working.Neighbours.{keeps, steps}
use Rattle.float.specs.Theorems.Rounded.{Stands, bits-kept, bits_of, stands, top_val, units-over}

-- the nearest pattern, as `round` finds it
module _ (x c k q : ℕ) (C : 0 < c) (few : q < 16777216) (full : (8388608 ≤ q) ⊎ (k ≡ 0)) (lo : q * 2 ^ k * c ≤ x) (hi : x < (q + 1) * 2 ^ k * c) where
  pub by_order : (o : Ordering) → Stands o ((x - q * 2 ^ k * c) * 2) (2 ^ k * c) → Nearest x c (k * 8388608 + nearest q o)
  by_order Ordering.lt h = keeps x c k q C few full lo hi (inl h)
  by_order Ordering.gt h = subst (λ (m : ℕ). Nearest x c (k * 8388608 + m)) plus (steps x c k q C few full lo hi (inl h))
    where
      plus : q + 1 ≡ suc q
      plus = omega arith
  by_order Ordering.eq h = elim (split (q % 2) 1) [
    | inl e ↦
        let z : q % 2 ≡ 0 = omega arith in
        let m : q ≡ q + q % 2 = omega arith in
        subst (λ (m : ℕ). Nearest x c (k * 8388608 + m)) m (keeps x c k q C few full lo hi (inr (h, z)))
    | inr e ↦
        let z : q % 2 ≡ 1 = omega arith in
        let m : q + 1 ≡ q + q % 2 = omega arith in
        subst (λ (m : ℕ). Nearest x c (k * 8388608 + m)) m (steps x c k q C few full lo hi (inr (h, z)))
  ]

  pub settled : (r d : ℕ) → (x - q * 2 ^ k * c) ≡ r → 2 ^ k * c ≡ d → Nearest x c (k * 8388608 + nearest q (compare (r * 2) d))
  settled r d e f =
      subst (λ (z : ℕ). Nearest x c (k * 8388608 + nearest q (compare (z * 2) d))) e
      (subst (λ (z : ℕ). Nearest x c (k * 8388608 + nearest q (compare ((x - q * 2 ^ k * c) * 2) z))) f
      (by_order (compare ((x - q * 2 ^ k * c) * 2) (2 ^ k * c)) (stands ((x - q * 2 ^ k * c) * 2) (2 ^ k * c))))

-- `round`'s own numbers, for the fraction a / c
module _ (a c : ℕ) (C : 0 < c) where
  abbrev target : ℕ
  target = a * 2 ^ 149

  abbrev shift : ℕ
  shift = size (target / c) - 24

  abbrev unit : ℕ
  unit = c * 2 ^ shift

  abbrev cut : ℕ
  cut = target / unit

  abbrev kept : ℕ
  kept = closest target unit

  abbrev pub nearest_bits : ℕ
  nearest_bits = shift * 8388608 + kept

  cut-few : cut < 16777216
  cut-few = subst (λ (z : ℕ). z < 2 ^ 24) (div-div-eq-div-mul target c (2 ^ shift)) (kept-lt 24 (target / c))

  enough : (z : ℕ) → 0 < z - 24 → 23 + (z - 24) < z
  enough z h = omega arith

  cut-full : (8388608 ≤ cut) ⊎ (shift ≡ 0)
  cut-full = elim (split 0 shift) [
    | inl h ↦
        inl (subst (λ (z : ℕ). 2 ^ 23 ≤ z) (div-div-eq-div-mul target c (2 ^ shift))
        ((le-div_iff_mul-le (pow_pos shift)).1 (le_trans (le_of_eq (sym (pow-add 2 23 shift))) (size_reaches (target / c) (23 + shift) (enough (size (target / c)) h)))))
    | inr z ↦ inr (omega arith)
  ]

  unit-pos : 0 < unit
  unit-pos = mul-pos C (pow_pos shift)

  swap : (n : ℕ) → n * 2 ^ shift * c ≡ n * unit
  swap n = mul_assoc n (2 ^ shift) c ∙ ap (λ (z : ℕ). n * z) (mul_comm (2 ^ shift) c)

  cut-lo : cut * 2 ^ shift * c ≤ target
  cut-lo = le_trans (le_of_eq (swap cut)) (div-mul-le_self target unit)

  one_more : (n u : ℕ) → n * u + u ≡ (n + 1) * u
  one_more n u = simp (add-one, suc-mul)

  cut-hi : target < (cut + 1) * 2 ^ shift * c
  cut-hi = lt_of_lt_of_le (lt-div-mul-add unit-pos) (le_of_eq (one_more cut unit ∙ sym (swap (cut + 1))))

  left_over : (t p r : ℕ) → p + r ≡ t → t - p ≡ r
  left_over t p r e = omega arith

  cut-rest : target - cut * 2 ^ shift * c ≡ target % unit
  cut-rest = left_over target (cut * 2 ^ shift * c) (target % unit) (ap (λ (z : ℕ). z + target % unit) (swap cut) ∙ div-add-mod' target unit)

  -- there is a nearest float
  pub nearest-is : Nearest target c nearest_bits
  nearest-is = settled target c shift cut C cut-few cut-full cut-lo cut-hi (target % unit) unit cut-rest (mul_comm (2 ^ shift) c)

  pub round-units : (s : Bool) → round binary32 s a c ≡ units binary32 s kept shift
  round-units s = round_is binary32 s a c

  kept-few : kept ≤ 16777216
  kept-few = le_trans (nearest-le cut (compare (target % unit * 2) unit)) cut-few

  kept_full : (8388608 ≤ cut) ⊎ (shift ≡ 0) → (8388608 ≤ kept) ⊎ (shift ≡ 0)
  kept_full (inl l) = inl (le_trans l (nearest-ge cut (compare (target % unit * 2) unit)))
  kept_full (inr z) = inr z

  pub kept-val : val nearest_bits ≡ kept * 2 ^ shift
  kept-val = val_at shift kept kept-few (kept_full cut-full)

  -- a number below 2 ^ 60 has a finite one
  pub nearest-small : a < 2 ^ 60 → nearest_bits < 2139095040
  nearest-small h =
      let z : size (target / c) ≤ 209 = size-le (target / c) 209 (lt_of_le_of_lt (div-le_self target c) (shl_lt 60 149 h)) in
      small (size (target / c)) kept z kept-few
    where
      small : (z m : ℕ) → z ≤ 209 → m ≤ 16777216 → (z - 24) * 8388608 + m < 2139095040
      small z m h k = omega arith

module _ (s : Bool) (a c b : ℕ) (C : 0 < c) (n : Nearest (a * 2 ^ 149) c b) where
  is_b : nearest_bits a c C ≡ b
  is_b = only (a * 2 ^ 149) c C (nearest_bits a c C) b (nearest-is a c C) n

  -- the nearest pattern is finite: `round` gives that float
  module _ (finite : b < 2139095040) where
    under : kept a c C * 2 ^ shift a c C < 2 ^ 277
    under = subst (λ (z : ℕ). z < 2 ^ 277) (ap val (sym is_b) ∙ kept-val a c C) (subst (λ (z : ℕ). val b < z) top_val (val-lt b 2139095040 finite))

    pub round-bits : to_bits binary32 (round binary32 s a c) ≡ cond s 2147483648 0 + b
    round-bits =
        let m = kept a c C in
        let k = shift a c C in
        let h : HasValue (round binary32 s a c) s (m * 2 ^ k) (2 ^ 149) = subst (λ (v : Float). HasValue v s (m * 2 ^ k) (2 ^ 149)) (sym (round-units a c C s)) (units_val binary32 s m k under) in
        bits_of (round binary32 s a c) s (m * 2 ^ k) h
        ∙ add_assoc (cond s 2147483648 0) ((size (m * 2 ^ k) - 24) * 8388608) (m * 2 ^ k / 2 ^ (size (m * 2 ^ k) - 24))
        ∙ ap (λ (z : ℕ). cond s 2147483648 0 + z) (bits-kept m k (kept-few a c C) (kept_full a c C (cut-full a c C)) ∙ is_b)

    pub round-of : round binary32 s a c ≡ of_bits binary32 (cond s 2147483648 0 + b)
    round-of = sym (of_bits-to_bits binary32 (round binary32 s a c) (round-fits binary32 s a c)) ∙ ap (of_bits binary32) round-bits

  -- it is not: `round` gives the infinity
  pub round-over : 2139095040 ≤ b → round binary32 s a c ≡ inf s
  round-over big =
      let over : 2 ^ 277 ≤ kept a c C * 2 ^ shift a c C = subst (λ (z : ℕ). 2 ^ 277 ≤ z) (ap val (sym is_b) ∙ kept-val a c C) (subst (λ (z : ℕ). z ≤ val b) top_val (val-le 2139095040 b big)) in
      round-units a c C s ∙ units-over s (kept a c C) (shift a c C) over
