-- Working laws of patterns: a larger one is a larger float. Assumes nothing.
use Rattle.std.specs.Prelude.{◌≡◌, refl, ◌⊎◌, Bool, true, false, ℕ, zero, suc, ◌+◌, ◌-◌, ◌*◌, ◌/◌, ◌%◌, ◌^◌, ◌≤◌, ◌<◌, ltb}
use Rattle.std.proofs.Common.{sym, ap, ◌∙◌, inl, inr, mul-one, mul-lt-mul_of_pos_right, le_of_lt, le_trans, lt_of_lt_of_le, eq-or-lt_of_le, le_of_eq, add-zero, arith, pow_pos, pow-add, lt-ltb, le-ltb, ltb-true, ltb-false}
use Rattle.float.specs.Nearest.{val}

pub split : (a b : ℕ) → (a < b) ⊎ (b ≤ a)
split a b = go (ltb a b) refl
  where
    go : (t : Bool) → ltb a b ≡ t → (a < b) ⊎ (b ≤ a)
    go true e = inl (ltb-true a b e)
    go false e = inr (ltb-false a b e)

-- q of at most 24 digits, with all 24 unless k is 0: the pattern of q * 2 ^ k is k * 2 ^ 23 + q
low : (b : ℕ) → b < 8388608 → val b ≡ b
unfolding val
low b h = simp (lt-ltb _ _ h)

high : (b e t : ℕ) → b ≡ (e + 1) * 8388608 + t → t < 8388608 → val b ≡ (8388608 + t) * 2 ^ e
unfolding val
high b e t p h =
    let a : 8388608 ≤ b = omega arith in
    let m : b % 8388608 ≡ t = omega arith in
    let d : b / 8388608 - 1 ≡ e = omega arith in
    simp (le-ltb _ _ a, m, d)

twice : (j : ℕ) → 8388608 * 2 ^ (j + 1) ≡ 16777216 * 2 ^ j
twice j = ap (λ (x : ℕ). 8388608 * x) (pow-add 2 j 1) ∙ omega arith

val-whole : (k q : ℕ) → q ≤ 16777216 → 8388608 ≤ q → val (k * 8388608 + q) ≡ q * 2 ^ k
val-whole k q h l = elim (eq-or-lt_of_le h) [
  | inl e ↦
      let p : k * 8388608 + q ≡ (k + 1 + 1) * 8388608 + 0 = omega arith in
      high (k * 8388608 + q) (k + 1) 0 p (omega arith) ∙ twice k ∙ ap (λ (x : ℕ). x * 2 ^ k) (sym e)
  | inr g ↦
      let p : k * 8388608 + q ≡ (k + 1) * 8388608 + (q - 8388608) = omega arith in
      let r : 8388608 + (q - 8388608) ≡ q = omega arith in
      high (k * 8388608 + q) k (q - 8388608) p (omega arith) ∙ ap (λ (x : ℕ). x * 2 ^ k) r
]

pub val_at : (k q : ℕ) → q ≤ 16777216 → (8388608 ≤ q) ⊎ (k ≡ 0) → val (k * 8388608 + q) ≡ q * 2 ^ k
val_at k q h (inl l) = val-whole k q h l
val_at k q h (inr z) = elim (split q 8388608) [
  | inr l ↦ val-whole k q h l
  | inl g ↦
      let p : k * 8388608 + q ≡ q = omega arith in
      ap val p ∙ low q g ∙ sym (mul-one q) ∙ ap (λ (x : ℕ). q * 2 ^ x) (sym z)
]

-- every pattern is one of these
pub record Parts (b : ℕ) : Type 0 where
  pub k : ℕ
  pub q : ℕ
  pub is : b ≡ k * 8388608 + q
  pub few : q < 16777216
  pub full : (8388608 ≤ q) ⊎ (k ≡ 0)

pub parts : (b : ℕ) → Parts b
parts b = elim (split b 8388608) [
  | inr l ↦ record { k = b / 8388608 - 1; q = 8388608 + b % 8388608; is = omega arith; few = omega arith; full = inl (omega arith) }
  | inl g ↦ record { k = 0; q = b; is = omega arith; few = omega arith; full = inr refl }
]

grown : (q m : ℕ) → 0 < m → q * m < (q + 1) * m
grown q m h = mul-lt-mul_of_pos_right (omega arith) h

still : (k q : ℕ) → (8388608 ≤ q) ⊎ (k ≡ 0) → (8388608 ≤ q + 1) ⊎ (k ≡ 0)
still k q (inl l) = inl (omega arith)
still k q (inr z) = inr z

-- a larger pattern is a larger float
pub val-up : (b : ℕ) → val b < val (b + 1)
val-up b =
    let p = parts b in
    let k = p.k in
    let q = p.q in
    let a : val b ≡ q * 2 ^ k = ap val p.is ∙ val_at k q (le_of_lt p.few) p.full in
    let n : b + 1 ≡ k * 8388608 + (q + 1) = omega (arith, p.is) in
    let c : val (b + 1) ≡ (q + 1) * 2 ^ k = ap val n ∙ val_at k (q + 1) (omega (arith, p.few)) (still k q p.full) in
    let g : q * 2 ^ k < (q + 1) * 2 ^ k = grown q (2 ^ k) (pow_pos k) in
    omega arith

val-more : (d b : ℕ) → val b ≤ val (b + d)
val-more zero b = le_of_eq (ap val (sym (add-zero b)))
val-more (suc d) b =
    let e : b + suc d ≡ b + d + 1 = omega arith in
    le_trans (val-more d b) (le_trans (le_of_lt (val-up (b + d))) (le_of_eq (ap val (sym e))))

pub val-le : (b d : ℕ) → b ≤ d → val b ≤ val d
val-le b d h = let e : b + (d - b) ≡ d = omega arith in le_trans (val-more (d - b) b) (le_of_eq (ap val e))

pub val-lt : (b d : ℕ) → b < d → val b < val d
val-lt b d h = let l : b + 1 ≤ d = omega arith in lt_of_lt_of_le (val-up b) (val-le (b + 1) d l)
