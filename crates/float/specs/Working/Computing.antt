-- Working laws: the ways out of the functions that compute. Assumes nothing.
use Rattle.std.specs.Prelude.{◌≡◌, refl, Bool, true, false, ℕ, zero, suc, ◌+◌, ◌-◌, ◌≤◌, ◌<◌, pos, Float, Option, None, Some}
use Rattle.std.proofs.Common.{sym, ap, ◌∙◌, add-one, lt_irrefl}
use native.Mathlib.Omega.{arith}
use Rattle.std.proofs.Math.Nat.{sub-zero}
use Rattle.std.specs.Float.{nan, inf, fin, binary32, float_is_finite}
use Rattle.std.specs.Float.Ieee.{mul, eq, of_int, of_bits}
use Rattle.text.specs.Choice.{pick, split}
use Rattle.float.specs.Operations.{Computed, is_finite, checked, raised_from, raised, power_from, power}

step : (n : ℕ) (x y : Float) → n ≤ 64 → power_from (65 - n) n x y ≡ pick (eq (of_int binary32 (pos n)) y) (raised n x) (power_from (64 - n) (n + 1) x y)
unfolding power_from
step n x y h =
    let z : 65 - n ≡ suc (64 - n) = omega arith in
    ap (λ (j : ℕ). power_from j n x y) z ∙ ap (λ (j : ℕ). pick (eq (of_int binary32 (pos n)) y) (raised n x) (power_from (64 - n) j x y)) (sym (add-one n))

-- the test of a finite float
pub finite-is : (x : Float) → float_is_finite x ≡ is_finite x
unfolding float_is_finite is_finite
finite-is nan = refl
finite-is (inf s) = refl
finite-is (fin s m e) = refl

-- a result
module _ (x : Float) (t : Bool) (e : t ≡ is_finite x) where
  pub check-kept : t ≡ true → Some x ≡ checked x
  unfolding checked
  check-kept h = rw (sym e ∙ h)

  pub check-refused : t ≡ false → None ≡ checked x
  unfolding checked
  check-refused h = rw (sym e ∙ h)

-- the power's loop
pub raise-start : (n : ℕ) (x : Float) → raised_from (n - 0) x (of_bits binary32 1065353216) ≡ raised n x
unfolding raised of_bits
raise-start n x = rw sub-zero

turn : (k : ℕ) (x v : Float) → 0 < k → raised_from k x v ≡ pick (is_finite (mul binary32 v x)) (raised_from (k - 1) x (mul binary32 v x)) None
unfolding raised_from
turn zero x v h = absurd (lt_irrefl 0 h)
turn (suc k) x v h = let e : k ≡ suc k - 1 = omega arith in ap (λ (j : ℕ). pick (is_finite (mul binary32 v x)) (raised_from j x (mul binary32 v x)) None) e

module _ (n k : ℕ) (x v : Float) (i : raised_from k x v ≡ raised n x) (t : Bool) (e : t ≡ is_finite (mul binary32 v x)) (some : 0 < k) where
  one-turn : raised_from k x v ≡ pick (is_finite (mul binary32 v x)) (raised_from (k - 1) x (mul binary32 v x)) None
  one-turn = turn k x v some

  raise-more : t ≡ true → raised_from (k - 1) x (mul binary32 v x) ≡ raised n x
  raise-more h = sym (one-turn ∙ ap (λ (b : Bool). pick b (raised_from (k - 1) x (mul binary32 v x)) None) (sym e ∙ h)) ∙ i

  raise-stop : t ≡ false → None ≡ raised n x
  raise-stop h = (sym (one-turn ∙ ap (λ (b : Bool). pick b (raised_from (k - 1) x (mul binary32 v x)) None) (sym e ∙ h)) ∙ i)

-- after i turns: the product is checked
module _ (n i : ℕ) (x v : Float) (inv : raised_from (n - i) x v ≡ raised n x) (h : i < n) (r : Computed) (re : r ≡ checked (mul binary32 v x)) where
  some : 0 < n - i
  some = omega arith

  pub raise-next : (w : Float) → r ≡ Some w → raised_from (n - (i + 1)) x w ≡ raised n x
  unfolding checked
  raise-next w e = split (is_finite (mul binary32 v x))
      (λ t. let z : mul binary32 v x ≡ w = cc (rw t at re, e) in
      let y : n - (i + 1) ≡ n - i - 1 = omega arith in
      rw (y, ← z) (raise-more n (n - i) x v inv true (sym t) some refl))
      (λ t. let no : ◌≡◌ {A = Option Float} None (Some w) = sym (rw t at re) ∙ e in cc)

  pub raise-error : r ≡ None → None ≡ raised n x
  unfolding checked
  raise-error e = split (is_finite (mul binary32 v x))
      (λ t. let no : ◌≡◌ {A = Option Float} (Some (mul binary32 v x)) None = sym (rw t at re) ∙ e in cc)
      (λ t. raise-stop n (n - i) x v inv false (sym t) some refl)

pub raise-done : (n i : ℕ) (x v : Float) → raised_from (n - i) x v ≡ raised n x → n ≤ i → Some v ≡ raised n x
unfolding raised_from
raise-done n i x v e h = let z : 0 ≡ n - i = omega arith in (ap (λ (j : ℕ). raised_from j x v) z ∙ e)

-- the power: the exponents from n on, k of them
module _ (n k : ℕ) (x y : Float) where
  pub power-hit : power_from (65 - n) n x y ≡ power x y → n < 65 → eq (of_int binary32 (pos n)) y ≡ true → (r : Computed) → r ≡ raised n x → r ≡ power x y
  power-hit i h₀ e r q = let h : n ≤ 64 = omega arith in q ∙ (sym (step n x y h ∙ ap (λ (t : Bool). pick t (raised n x) (power_from (64 - n) (n + 1) x y)) e) ∙ i)

  pub power-on : power_from (65 - n) n x y ≡ power x y → n < 65 → eq (of_int binary32 (pos n)) y ≡ false → power_from (65 - (n + 1)) (n + 1) x y ≡ power x y
  power-on i h₀ e =
      let h : n ≤ 64 = omega arith in
      let z : 65 - (n + 1) ≡ 64 - n = omega arith in
      ap (λ (j : ℕ). power_from j (n + 1) x y) z ∙ sym (step n x y h ∙ ap (λ (t : Bool). pick t (raised n x) (power_from (64 - n) (n + 1) x y)) e) ∙ i

  pub power-none : power_from (65 - n) n x y ≡ power x y → 65 ≤ n → None ≡ power x y
  unfolding power_from
  power-none i h = let z : 0 ≡ 65 - n = omega arith in (ap (λ (j : ℕ). power_from j n x y) z ∙ i)

pub power-start : (x y : Float) → power_from 65 0 x y ≡ power x y
unfolding power
power-start x y = refl
