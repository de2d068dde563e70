-- Working laws: what the parts of `nearest_to` give, and that together they give the nearest float. Assumes nothing.
use Rattle.std.specs.Prelude.{◌≡◌, refl, Bool, true, false, not, cond, T, ltb}
use Rattle.std.proofs.Common.{sym, ap, ◌∙◌, subst, inl, inr, add-mul, one-mul, le_trans, le_of_eq, le_of_lt, lt_of_lt_of_le, lt_of_le_of_lt, mul-one, mul_comm, mul_assoc, mul_left_comm, mul_right_comm, mul-pos, mul-le-mul_left, mul-le-mul_right, mul-lt-mul_of_pos_right, lt_of_mul-lt-mul_right, div-add-mod', mod-lt, lt_irrefl, zero-mul, pow-suc, mod-eq_of_lt, arith, lit<, lit≤, le-ltb, Fits, pow_pos, pow-add, pow_mono}
use Prim.Native.Nat.{ℕ, zero, suc, ◌+◌, ◌-◌, ◌*◌, ◌/◌, ◌%◌, ◌^◌, ◌≤◌, ◌<◌}
use Rattle.std.proofs.Math.Nat.{mul-lt-mul_of_pos_left}
use Rattle.std.specs.Float.Ieee.Fits.{round_is}
use Rattle.std.specs.Float.Ieee.Bits.{nan_bits_above}
use Rattle.std.specs.Int.{w64}
use Rattle.std.specs.Float.{inf, binary32}
use Rattle.std.specs.Float.Ieee.{odd, units, round, neg, nan_bits}
use Rattle.float.specs.Working.Patterns.{split}
use Rattle.float.specs.Nearest.{val, apart, Nearest}
use Rattle.float.specs.declared.decimal.Scaled.{Scaled}
use Rattle.float.specs.declared.decimal.Cut.{Cut}

-- c * 2 ^ (j - 125) is b. Shut: `omega` does not read a number of more than 38 digits, and refuses where one is in reach
unfoldable pub Level : ℕ → ℕ → ℕ → Type 0
Level j c b = 2 ^ j * c ≡ 2 ^ 125 * b

pub record Under (a c : ℕ) (r : Scaled) : Type 0 where
  pub some : 0 < r.under
  pub above : a < r.under
  pub small : r.under ≤ 2000000000000000000
  pub low : 125 ≤ r.place
  pub high : r.place < 186
  pub same : Level r.place c r.under

pub record Over (a b j : ℕ) (r : Scaled) : Type 0 where
  pub below : r.over < b
  pub half : b ≤ r.over * 2
  pub place-le : r.place ≤ j
  pub same : r.over * 2 ^ r.place ≡ a * 2 ^ j

pub record Divided (a b : ℕ) (r : Cut) : Type 0 where
  pub rest_lt : r.rest < b
  pub same : r.digits * b + r.rest ≡ a * 2 ^ 24

-- the pattern is finite and nearest to a / c
pub record Found (a c r : ℕ) : Type 0 where
  pub finite : r < 2139095040
  pub nearest-to : Nearest (a * 2 ^ 149) c r

-- bounds on the places
pub place-high : (j c b : ℕ) → Level j c b → 0 < c → b ≤ 2000000000000000000 → j < 186
unfolding Level
place-high j c b e C h = elim (split j 186) [
  | inl l ↦ l
  | inr g ↦
      let p : 2 ^ j ≤ 2 ^ 125 * b = le_trans (le_of_eq (sym (mul-one (2 ^ j)))) (le_trans (mul-le-mul_left (2 ^ j) C) (le_of_eq e)) in
      let w : b < 2 ^ 61 = lt_of_le_of_lt h (lit< tt) in
      let q : 2 ^ 125 * b < 2 ^ 125 * 2 ^ 61 = mul-lt-mul_of_pos_left {n = 2 ^ 61} w (pow_pos 125) in
      absurd (lt_irrefl (2 ^ 186) (lt_of_le_of_lt (le_trans (pow_mono g) p) q))
]

pub place-low : (a j a₀ j₀ : ℕ) → a * 2 ^ j ≡ a₀ * 2 ^ j₀ → 0 < a₀ → 125 ≤ j₀ → a < 2000000000000000000 → 60 < j
place-low a j a₀ j₀ e A J h = elim (split 60 j) [
  | inl l ↦ l
  | inr g ↦
      let p : 2 ^ j ≤ 2 ^ 60 = pow_mono g in
      let q : 2 ^ 125 ≤ 2 ^ j₀ = pow_mono J in
      let r : 1 * 2 ^ j₀ ≤ a₀ * 2 ^ j₀ = mul-le-mul_right (2 ^ j₀) A in
      let s : a * 2 ^ j ≤ a * 2 ^ 60 = mul-le-mul_left a p in
      let o : 1 * 2 ^ j₀ ≡ 2 ^ j₀ = one-mul (2 ^ j₀) in
      let no : ⊥ = omega arith in absurd no
]

pub ten-pos : (k : ℕ) → 0 < 10 ^ k
ten-pos zero = lit< tt
ten-pos (suc k) = subst (λ (z : ℕ). 0 < z) (sym (pow-suc 10 k)) (mul-pos (ten-pos k) (lit< tt))

-- 10 ^ k, for a k up to m, is at most 10 ^ m
pub ten-le : (k m : ℕ) → k ≤ m → 10 ^ k ≤ 10 ^ m
ten-le k m h =
    let e : m ≡ k + (m - k) = omega arith in
    subst (λ (z : ℕ). 10 ^ k ≤ 10 ^ z) (sym e) (subst (λ (z : ℕ). 10 ^ k ≤ z) (sym (pow-add 10 k (m - k))) (le_trans (le_of_eq (sym (mul-one (10 ^ k)))) (mul-le-mul_left (10 ^ k) (ten-pos (m - k)))))

-- the loops' steps
pub level-start : (c : ℕ) → Level 125 c c
unfolding Level
level-start c = refl

pub under-step : (j c b : ℕ) → Level j c b → Level (j + 1) c (b * 2)
unfolding Level
under-step j c b e =
    let p : 2 ^ (j + 1) * c ≡ 2 ^ j * c * 2 = ap (λ (x : ℕ). x * c) (pow-add 2 j 1) ∙ mul_right_comm (2 ^ j) 2 c in
    omega arith

pub over-step : (a j m : ℕ) → 0 < j → a * 2 ^ j ≡ m → a * 2 * 2 ^ (j - 1) ≡ m
over-step a j m h e =
    let k : j ≡ 1 + (j - 1) = omega arith in
    mul_assoc a 2 (2 ^ (j - 1)) ∙ ap (λ (x : ℕ). a * x) (sym (pow-add 2 1 (j - 1))) ∙ ap (λ (x : ℕ). a * 2 ^ x) (sym k) ∙ e

pub divide-step : (a b q r i : ℕ) → q * b + r ≡ a * 2 ^ (3 * i) → (q * 8 + r * 8 / b) * b + r * 8 % b ≡ a * 2 ^ (3 * (i + 1))
divide-step a b q r i e =
    let d : r * 8 / b * b + r * 8 % b ≡ r * 8 = div-add-mod' (r * 8) b in
    let m : (q * 8 + r * 8 / b) * b ≡ q * 8 * b + r * 8 / b * b = add-mul (q * 8) (r * 8 / b) b in
    let n : q * 8 * b ≡ q * b * 8 = mul_right_comm q 8 b in
    let p : 3 * (i + 1) ≡ 3 * i + 3 = omega arith in
    let z : a * 2 ^ (3 * (i + 1)) ≡ a * 2 ^ (3 * i) * 8 = ap (λ (x : ℕ). a * 2 ^ x) p ∙ ap (λ (x : ℕ). a * x) (pow-add 2 (3 * i) 3) ∙ sym (mul_assoc a (2 ^ (3 * i)) 8) in
    omega arith

pub divide-few : (a b q r i : ℕ) → q * b + r ≡ a * 2 ^ (3 * i) → a < b → i ≤ 8 → q < 16777216
divide-few a b q r i e l h =
    let g : 3 * i ≤ 24 = omega arith in
    let p : 2 ^ (3 * i) ≤ 2 ^ 24 = pow_mono g in
    let z : a * 2 ^ (3 * i) < b * 2 ^ (3 * i) = mul-lt-mul_of_pos_right l (pow_pos (3 * i)) in
    let y : b * 2 ^ (3 * i) ≤ b * 2 ^ 24 = mul-le-mul_left b p in
    let c : b * 2 ^ 24 ≡ 2 ^ 24 * b = mul_comm b (2 ^ 24) in
    let u : q * b < 2 ^ 24 * b = omega arith in
    lt_of_mul-lt-mul_right b u

pub divide-digit : (r b : ℕ) → r < b → r * 8 / b < 8
divide-digit r b h =
    let d : r * 8 / b * b + r * 8 % b ≡ r * 8 = div-add-mod' (r * 8) b in
    let u : r * 8 / b * b < 8 * b = omega arith in
    lt_of_mul-lt-mul_right b u

-- what fits, and what the parts give
pub ten-fits : (k : ℕ) → k ≤ 18 → 10 ^ k < 2 ^ 64
ten-fits k h = let m : 10 ^ k ≤ 10 ^ 18 = ten-le k 18 h in omega arith

pub place-fits : (j c b : ℕ) → Level j c b → 0 < c → b ≤ 2000000000000000000 → Fits w64 (j + 1)
place-fits j c b e C h = let l : j < 186 = place-high j c b e C h in record { fits = omega arith }

pub under-made : (a c b j : ℕ) → 0 < b → a < b → b ≤ 2000000000000000000 → 125 ≤ j → 0 < c → Level j c b → Under a c (record { over = a; under = b; place = j })
under-made a c b j p l h g C e = record { some = p; above = l; small = h; low = g; high = place-high j c b e C h; same = e }

pub place-some : (a j a₀ j₀ b : ℕ) → a * 2 ^ j ≡ a₀ * 2 ^ j₀ → 0 < a₀ → 125 ≤ j₀ → a < b → b ≤ 2000000000000000000 → 1 ≤ j
place-some a j a₀ j₀ b e A J h k = let l : 60 < j = place-low a j a₀ j₀ e A J (lt_of_lt_of_le h k) in omega arith

pub over-again : (a j a₀ j₀ b : ℕ) → a * 2 ^ j ≡ a₀ * 2 ^ j₀ → 0 < a₀ → 125 ≤ j₀ → a < b → b ≤ 2000000000000000000 → a * 2 * 2 ^ (j - 1) ≡ a₀ * 2 ^ j₀
over-again a j a₀ j₀ b e A J h k = over-step a j (a₀ * 2 ^ j₀) (place-some a j a₀ j₀ b e A J h k) e

pub over-made : (a j a₀ j₀ b : ℕ) → a < b → b ≤ a * 2 → j ≤ j₀ → a * 2 ^ j ≡ a₀ * 2 ^ j₀ → Over a₀ b j₀ (record { over = a; under = b; place = j })
over-made a j a₀ j₀ b h k l e = record { below = h; half = k; place-le = l; same = e }

pub digits-fit : (a b q r i : ℕ) → q * b + r ≡ a * 2 ^ (3 * i) → a < b → i < 8 → Fits w64 (q * 8)
digits-fit a b q r i e l h = let f : q < 16777216 = divide-few a b q r i e l (le_of_lt h) in record { fits = omega arith }

pub digit-fits : (a b q r i : ℕ) → q * b + r ≡ a * 2 ^ (3 * i) → a < b → i < 8 → r < b → Fits w64 (q * 8 + r * 8 / b)
digit-fits a b q r i e l h g =
    let f : q < 16777216 = divide-few a b q r i e l (le_of_lt h) in
    let d : r * 8 / b < 8 = divide-digit r b g in
    record { fits = omega arith }

pub rest_below : (r b : ℕ) → r < b → r * 8 % b < b
rest_below r b h = let p : 0 < b = omega arith in mod-lt (r * 8) p

-- T and U are powers of two, J and K the places' weights
pub chain : (n a c b J K T U v : ℕ) → K * c ≡ U * b → a * J ≡ n * K → v ≡ a * T → n * (T * U) * b ≡ v * (J * c)
chain n a c b J K T U v e f g =
    let l : a * T * (J * c) ≡ a * J * (T * c) = simp (mul_assoc, mul_comm, mul_left_comm) in
    let m : n * K * (T * c) ≡ n * T * (K * c) = simp (mul_assoc, mul_comm, mul_left_comm) in
    let o : n * T * (U * b) ≡ n * (T * U) * b = simp (mul_assoc, mul_comm, mul_left_comm) in
    sym (ap (λ (z : ℕ). z * (J * c)) g ∙ l ∙ ap (λ (z : ℕ). z * (T * c)) f ∙ m ∙ ap (λ (z : ℕ). n * T * z) e ∙ o)

pub full-digits : (a b q r : ℕ) → q * b + r ≡ a * 16777216 → r < b → b ≤ a * 2 → 8388608 ≤ q
full-digits a b q r e h l = elim (split q 8388608) [
  | inr g ↦ g
  | inl g ↦
      let m : (q + 1) * b ≤ 8388608 * b = mul-le-mul_right b (omega arith) in
      let n : (q + 1) * b ≡ q * b + b = add-mul q 1 b ∙ ap (λ (z : ℕ). q * b + z) (one-mul b) in
      let no : ⊥ = omega arith in absurd no
]

pub few-digits : (a b q r : ℕ) → q * b + r ≡ a * 16777216 → a < b → q < 16777216
few-digits a b q r e l =
    let c : q * b < 16777216 * b = omega arith in
    lt_of_mul-lt-mul_right b c

-- a zero
pub zero-nearest : (c : ℕ) → Nearest (0 * 2 ^ 149) c 0
unfolding val
zero-nearest c = record { near = λ d. zero-le' (apart 0 (val d * c)) (val 0 * c) (zero-mul c); even = λ d ne e. refl }
  where
    zero-le' : (y z : ℕ) → z ≡ 0 → apart 0 z ≤ y
    zero-le' y z e = omega arith

pub few-of : (a b : ℕ) (d : Cut) → Divided a b d → a < b → d.digits < 16777216
few-of a b d h l = few-digits a b d.digits d.rest h.same l

pub in-range : (j k m : ℕ) → j ≤ k → k < 186 → m ≤ 16777216 → j * 8388608 + m < 2139095040
in-range j k m a b c = omega arith

-- the float of the pattern
odd-neg : (d q k l : ℕ) → neg (odd d false q k l) ≡ odd d true q k l
unfolding odd neg
odd-neg d zero k l = refl
odd-neg d (suc q) k l = refl

neg-inf : neg (inf false) ≡ inf true
unfolding neg
neg-inf = refl

units-neg : (q k : ℕ) → neg (units binary32 false q k) ≡ units binary32 true q k
unfolding units
units-neg q k = go (ltb (q * 2 ^ k) (2 ^ 277))
  where
    go : (t : Bool) → neg (cond t (odd 25 false q k 149) (inf false)) ≡ cond t (odd 25 true q k 149) (inf true)
    go true = odd-neg 25 q k 149
    go false = neg-inf

pub round-neg : (a c : ℕ) → neg (round binary32 false a c) ≡ round binary32 true a c
round-neg a c = ap neg (round_is binary32 false a c) ∙ units-neg _ _ ∙ sym (round_is binary32 true a c)

pub found_number : (a c p : ℕ) → Found a c p → T (not (nan_bits binary32 p))
found_number a c p f =
    let m : p % 2147483648 ≡ p = mod-eq_of_lt (lt_of_lt_of_le f.finite (lit≤ tt)) in
    subst (λ (t : Bool). T (not t)) (sym (nan_bits_above binary32 p ∙ ap (λ (z : ℕ). ltb 2139095040 z) m ∙ le-ltb 2139095040 p (le_of_lt f.finite))) tt

pub ten-small : (k c : ℕ) → k ≤ 18 → c ≡ 10 ^ k → c ≤ 1000000000000000000
ten-small k c h e = subst (λ (z : ℕ). z ≤ 1000000000000000000) (sym e) (ten-le k 18 h)

pub ten-some : (k c : ℕ) → c ≡ 10 ^ k → 0 < c
ten-some k c e = subst (λ (z : ℕ). 0 < z) (sym e) (ten-pos k)
