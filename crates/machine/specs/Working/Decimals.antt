-- Working laws: the ways out of `digits_end` and `decimal_at`. Assumes nothing.
use Rattle.std.specs.Prelude.{◌≡◌, List, [], take, drop, Float}
use Rattle.std.proofs.Math.Path.{refl, sym, ap}
use Rattle.std.proofs.Common.{◌∙◌, arith, drop_of_length-le, Fits}
use Prim.Native.Nat.{ℕ, zero, suc, ◌+◌, ◌-◌, ◌^◌, ◌<◌, ◌≤◌}
use Rattle.std.proofs.Math.ListN.{length, length-drop}
use Rattle.std.proofs.Math.Seq.{take_all}
use Rattle.std.specs.Float.{binary32}
use Rattle.std.specs.Float.Ieee.{of_bits}
use Rattle.std.specs.Int.{w64}
use Rattle.text.specs.Scan.{run, past, past_end, past-from, past-within}
use Rattle.text.specs.Class.{in_class, digit}
use Rattle.float.specs.Written.{float_of}
use Rattle.syntax.specs.Code.{decimal_at}

tail-is : (s : List ℕ) (k : ℕ) → take (length s - k) (drop k s) ≡ drop k s
tail-is s k = take_all (length s - k) (drop k s) (simp length-drop (omega arith))

take_none : (k : ℕ) (xs : List ℕ) → xs ≡ [] → take k xs ≡ []
take_none zero xs e = refl
take_none (suc k) xs e = ap (take (suc k)) e

-- the ways out of `digits_end`
module _ (s : List ℕ) (at : ℕ) where
  pub digits-none : length s ≤ at → at ≡ past (in_class digit) s at
  digits-none h = sym (past_end (in_class digit) s at h)

  module _ (h : at < length s) (k : ℕ) (ke : k ≡ run (in_class digit) (take (length s - at) (drop at s))) where
    pub digits-behind : at + k ≡ past (in_class digit) s at
    unfolding past
    digits-behind = ap (λ (z : ℕ). at + z) (ke ∙ ap (run (in_class digit)) (tail-is s at))

    pub digits-fit : length s < 2 ^ 64 → Fits w64 (at + k)
    digits-fit l =
        let a : past (in_class digit) s at ≤ length s = past-within (in_class digit) s at (omega (arith, h)) in
        record { fits = omega (arith, l, a, digits-behind) }

-- the literal, its point at p
unfoldable from : List ℕ → ℕ → ℕ → List ℕ
from s at n = take n (drop at s)

parts_are : (s : List ℕ) (at a : ℕ) → a ≡ run (in_class digit) (drop at s) → decimal_at s at ≡ from s at (a + 1 + run (in_class digit) (drop (at + a + 1) s))
unfolding decimal_at from
parts_are s at a e = rw (← e)

module _ (s : List ℕ) (at : ℕ) where
  pub decimal-none : length s ≤ at → of_bits binary32 0 ≡ float_of (decimal_at s at)
  unfolding from float_of
  decimal-none h = sym (ap float_of (parts_are s at (run (in_class digit) (drop at s)) refl ∙ take_none (run (in_class digit) (drop at s) + 1 + run (in_class digit) (drop (at + run (in_class digit) (drop at s) + 1) s)) (drop at s) (drop_of_length-le s h)))

  module _ (p : ℕ) (pe : p ≡ past (in_class digit) s at) where
    before : p ≡ at + run (in_class digit) (drop at s)
    unfolding past
    before = pe

    pub decimal-end : length s ≤ p → (r : Float) → r ≡ float_of (take (length s - at) (drop at s)) → r ≡ float_of (decimal_at s at)
    unfolding from
    decimal-end g r e =
        let a : length (drop at s) ≡ length s - at = length-drop at s in
        e ∙ ap float_of (tail-is s at ∙ sym (parts_are s at (run (in_class digit) (drop at s)) refl
        ∙ take_all (run (in_class digit) (drop at s) + 1 + run (in_class digit) (drop (at + run (in_class digit) (drop at s) + 1) s)) (drop at s) (omega (arith, a, g, before))))

    module _ (m : p < length s) (e : ℕ) (ee : e ≡ past (in_class digit) s (p + 1)) where
      pub decimal-from : at ≤ e
      decimal-from = omega (arith, ee, before, past-from (in_class digit) s (p + 1))

      pub decimal-within : e ≤ length s
      decimal-within = rw ee (past-within (in_class digit) s (p + 1) (omega (arith, m)))

      pub decimal-is : (r : Float) → r ≡ float_of (take (e - at) (drop at s)) → r ≡ float_of (decimal_at s at)
      unfolding from past
      decimal-is r q =
          let a : ℕ = run (in_class digit) (drop at s) in
          let d : p + 1 ≡ at + a + 1 = omega (arith, before) in
          let f : e ≡ at + a + 1 + run (in_class digit) (drop (at + a + 1) s) = ee ∙ ap (λ (z : ℕ). z + run (in_class digit) (drop z s)) d in
          let g : e - at ≡ a + 1 + run (in_class digit) (drop (at + a + 1) s) = omega (arith, f) in
          q ∙ ap (λ (z : ℕ). float_of (take z (drop at s))) g ∙ ap float_of (sym (parts_are s at a refl))
