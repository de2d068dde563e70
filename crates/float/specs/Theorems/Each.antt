-- "Each operation rounds once": on finite operands the exact sum, product or quotient is a fraction a / c of whole numbers with a sign, and the
-- result is the float nearest to it, of two equally near the even one, or the infinity of that sign where the nearest pattern is none of a finite float. Assumes nothing.
use Rattle.std.specs.Prelude.{◌≡◌, refl, Bool, true, false, not, cond, ℕ, zero, suc, ◌+◌, ◌-◌, ◌*◌, ◌%◌, ◌^◌, ◌≤◌, ◌<◌, T, Float, None, Some}
use Rattle.std.proofs.Common.{sym, ap, ◌∙◌, subst, true≢false, zero-lt-suc, arith, le-ltb}
use Rattle.std.specs.Float.{nan, inf, fin, binary32}
use Rattle.std.specs.Float.Ieee.{sub, neg, of_bits, to_bits, is_nan}
use Rattle.std.specs.Float.Ieee.Bits.{to_bits-of_bits, nan_bits_is, nan_bits_above}
use Rattle.float.specs.Nearest.{Nearest}
use Rattle.float.specs.Operations.{Computed, is_finite, checked, plus, minus}

-- r is ± a / c, rounded once
pub data RoundedTo (s : Bool) (a c : ℕ) (r : Float) : Type 0 where
  finite : (b : ℕ) → Nearest (a * 2 ^ 149) c b → b < 2139095040 → r ≡ of_bits binary32 (cond s 2147483648 0 + b) → RoundedTo s a c r
  over : (b : ℕ) → Nearest (a * 2 ^ 149) c b → 2139095040 ≤ b → r ≡ inf s → RoundedTo s a c r

pub some : (n : ℕ) → (n ≡ 0 → ⊥) → 0 < n
some zero h = absurd (h refl)
some (suc n) h = zero-lt-suc n

-- ±a / c + ±b / c is exactly ±n / c
pub data Sum (s : Bool) (a : ℕ) (t : Bool) (b : ℕ) : Bool → ℕ → Type 0 where
  like : s ≡ t → Sum s a t b s (a + b)
  right : (s ≡ t → ⊥) → a < b → Sum s a t b t (b - a)
  left : (s ≡ t → ⊥) → b < a → Sum s a t b s (a - b)
  nothing : (s ≡ t → ⊥) → a ≡ b → Sum s a t b false 0

pub record Total (s : Bool) (a : ℕ) (t : Bool) (b c : ℕ) (r : Float) : Type 0 where
  pub sign : Bool
  pub number : ℕ
  pub exact : Sum s a t b sign number
  pub once : RoundedTo sign number c r

-- "An infinite or not-a-number result is an error": the same of what is computed
pub data Once (s : Bool) (a c : ℕ) : Computed → Type 0 where
  near : (b : ℕ) → Nearest (a * 2 ^ 149) c b → b < 2139095040 → Once s a c (Some (of_bits binary32 (cond s 2147483648 0 + b)))
  beyond : (b : ℕ) → Nearest (a * 2 ^ 149) c b → 2139095040 ≤ b → Once s a c None

-- a pattern below the infinity's is a finite float's
finite-bits : (n : ℕ) → n < 4294967296 → n % 2147483648 < 2139095040 → is_finite (of_bits binary32 n) ≡ true
unfolding is_finite is_nan to_bits
finite-bits n h k = go (of_bits binary32 n) refl
  where
    number : is_nan (of_bits binary32 n) ≡ false
    number = sym (nan_bits_is binary32 n) ∙ nan_bits_above binary32 n ∙ le-ltb 2139095040 (n % 2147483648) (omega (arith, k))

    go : (x : Float) → of_bits binary32 n ≡ x → is_finite x ≡ true
    go nan e = absurd (true≢false (ap is_nan (sym e) ∙ number))
    go (inf true) e =
        let q : to_bits binary32 (inf true) ≡ n = ap (to_bits binary32) (sym e) ∙ to_bits-of_bits binary32 n h (subst (λ (t : Bool). T (not t)) (sym number) tt) in
        let no : ⊥ = omega (arith, q, k) in absurd no
    go (inf false) e =
        let q : to_bits binary32 (inf false) ≡ n = ap (to_bits binary32) (sym e) ∙ to_bits-of_bits binary32 n h (subst (λ (t : Bool). T (not t)) (sym number) tt) in
        let no : ⊥ = omega (arith, q, k) in absurd no
    go (fin s m d) e = refl

finite-sign : (s : Bool) (b : ℕ) → b < 2139095040 → is_finite (of_bits binary32 (cond s 2147483648 0 + b)) ≡ true
finite-sign true b h = finite-bits (2147483648 + b) (omega (arith, h)) (omega (arith, h))
finite-sign false b h = finite-bits (0 + b) (omega (arith, h)) (omega (arith, h))

pub once : (s : Bool) (a c : ℕ) (r : Float) → RoundedTo s a c r → Once s a c (checked r)
unfolding checked is_finite
once s a c r (finite b n h e) = rw (e, finite-sign s b h) (near b n h)
once s a c r (over b n h e) = rw e (beyond b n h)

pub record PlusOnce (s : Bool) (a : ℕ) (t : Bool) (b c : ℕ) (r : Computed) : Type 0 where
  pub sign : Bool
  pub number : ℕ
  pub exact : Sum s a t b sign number
  pub rounded : Once sign number c r

-- "-" is "+" of the other sign
pub minus_is : (a b : Float) → minus a b ≡ plus a (neg b)
unfolding minus plus sub
minus_is a b = refl
