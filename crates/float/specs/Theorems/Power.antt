-- "^" in W-204's words: for an exponent whose value is a whole number n, 0 to 64, it is 1.0 times x, n times; any other exponent is an error. Assumes nothing.
use Rattle.std.specs.Prelude.{◌≡◌, Bool, pos, Float, None}
use Rattle.std.proofs.Math.Path.{refl, ap, subst}
use Rattle.std.proofs.Common.{sym, ◌∙◌}
use Rattle.std.proofs.Math.Bool.{true, false}
use Prim.Native.Nat.{ℕ, zero, suc, ◌+◌, ◌≤◌, ◌<◌}
use native.Mathlib.Omega.{arith}
use Rattle.std.proofs.Math.Dec.{T}
use Rattle.std.specs.Float.Ieee.{binary32, eq, of_int}
use Rattle.text.specs.Choice.{pick}
use Rattle.float.specs.Operations.{raised, power_from, power}
use Rattle.float.specs.Theorems.Exponent.{IsWhole, exponent-is, exponent-of, exponent-only}

module _ (x y : Float) where
  hit : (k n m : ℕ) → n ≤ m → m < n + k → m ≤ 64 → IsWhole m y → power_from k n x y ≡ raised m x
  unfolding power_from
  hit zero n m a b c w = let no : ⊥ = omega arith in absurd no
  hit (suc k) n m a b c w = go (eq (of_int binary32 (pos n)) y) refl (λ g h. hit k (suc n) m g h c w)
    where
      go : (t : Bool) → eq (of_int binary32 (pos n)) y ≡ t → (suc n ≤ m → m < suc n + k → power_from k (suc n) x y ≡ raised m x) → pick t (raised n x) (power_from k (suc n) x y) ≡ raised m x
      go true e ih =
          let l : n ≤ 64 = omega arith in
          ap (λ (j : ℕ). raised j x) (exponent-only n m y (exponent-is n y l (subst T (sym e) tt)) w)
      go false e ih =
          let l : (n ≡ m → ⊥) = λ (z : n ≡ m). subst T (ap (λ (j : ℕ). eq (of_int binary32 (pos j)) y) (sym z) ∙ e) (exponent-of m y c w) in
          let g : suc n ≤ m = omega arith in
          let h : m < suc n + k = omega arith in
          ih g h

  none : (k n : ℕ) → n + k ≤ 65 → ((m : ℕ) → m ≤ 64 → IsWhole m y → ⊥) → power_from k n x y ≡ None
  unfolding power_from
  none zero n a f = refl
  none (suc k) n a f = go (eq (of_int binary32 (pos n)) y) refl (λ l. none k (suc n) l f)
    where
      go : (t : Bool) → eq (of_int binary32 (pos n)) y ≡ t → (suc n + k ≤ 65 → power_from k (suc n) x y ≡ None) → pick t (raised n x) (power_from k (suc n) x y) ≡ None
      go true e ih = let l : n ≤ 64 = omega arith in absurd (f n l (exponent-is n y l (subst T (sym e) tt)))
      go false e ih = let l : suc n + k ≤ 65 = omega arith in ih l

  pub power-whole : (n : ℕ) → n ≤ 64 → IsWhole n y → power x y ≡ raised n x
  unfolding power
  power-whole n h w = let l : n < 65 = omega arith in let z : 0 ≤ n = omega arith in hit 65 0 n z l h w

  pub power-other : ((n : ℕ) → n ≤ 64 → IsWhole n y → ⊥) → power x y ≡ None
  unfolding power
  power-other f = let l : 65 ≤ 65 = omega arith in none 65 0 l f
