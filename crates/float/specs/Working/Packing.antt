-- Working laws: the ways out of the functions between floats and bits. Assumes nothing.
use Rattle.std.specs.Prelude.{◌≡◌, refl, Bool, true, false, not, ℕ, ◌%◌, ◌≤◌, ◌<◌, T, ltb, Float}
use Rattle.std.proofs.Common.{sym, ap, ◌∙◌, subst, true≢false, arith, lt-ltb, le-ltb, ltb-true}
use Rattle.std.specs.Float.{nan, inf, fin, binary32}
use Rattle.std.specs.Float.Ieee.{div, of_bits, to_bits, nan_bits, is_nan}
use Rattle.std.specs.Float.Ieee.Bits.{nan_bits_is, nan_bits_above}
use Rattle.text.specs.Choice.{pick}
use Rattle.float.specs.Bits.{float_at}

zero_by_zero : div binary32 (of_bits binary32 0) (of_bits binary32 0) ≡ nan
unfolding div of_bits
zero_by_zero = refl

is-nan : (x : Float) → is_nan x ≡ true → x ≡ nan
unfolding is_nan
is-nan nan h = refl
is-nan (inf s) h = absurd (true≢false (sym h))
is-nan (fin s m e) h = absurd (true≢false (sym h))

nan_pattern : to_bits binary32 nan ≡ 2143289344
unfolding to_bits
nan_pattern = refl

-- the bits of a NaN
pub nan-bits : (x : Float) (r : Bool) → r ≡ is_nan x → r ≡ true → 2143289344 ≡ to_bits binary32 x
nan-bits x r e h = sym (ap (to_bits binary32) (is-nan x (sym e ∙ h)) ∙ nan_pattern)

-- the float of a number
above : (n : ℕ) → nan_bits binary32 n ≡ ltb 2139095040 (n % 2147483648)
above n = nan_bits_above binary32 n

no_nan : (n : ℕ) → n % 2147483648 ≤ 2139095040 → T (not (nan_bits binary32 n))
no_nan n h = subst (λ (t : Bool). T (not t)) (sym (above n ∙ le-ltb 2139095040 (n % 2147483648) h)) tt

a-nan : (n : ℕ) → 2139095040 < n % 2147483648 → of_bits binary32 n ≡ nan
a-nan n h = is-nan (of_bits binary32 n) (sym (nan_bits_is binary32 n) ∙ above n ∙ lt-ltb 2139095040 (n % 2147483648) h)

pub number-low : (n : ℕ) → n ≤ 2139095040 → T (not (nan_bits binary32 n))
number-low n h = let l : n % 2147483648 ≤ 2139095040 = omega arith in no_nan n l

pub number-high : (n : ℕ) → 2147483648 ≤ n → n ≤ 4286578688 → T (not (nan_bits binary32 n))
number-high n g h = let l : n % 2147483648 ≤ 2139095040 = omega arith in no_nan n l

pub float-low : (n : ℕ) → n ≤ 2139095040 → of_bits binary32 n ≡ float_at n
unfolding float_at
float-low n h = let l : n < 4294967296 = omega arith in simp (lt-ltb _ _ l)

pub float-high : (n : ℕ) → 2147483648 ≤ n → n ≤ 4286578688 → of_bits binary32 n ≡ float_at n
unfolding float_at
float-high n g h = let l : n < 4294967296 = omega arith in simp (lt-ltb _ _ l)

pub float-nan : (n : ℕ) → 2139095040 < n → n < 2147483648 → div binary32 (of_bits binary32 0) (of_bits binary32 0) ≡ float_at n
unfolding float_at
float-nan n g h =
    let l : n < 4294967296 = omega arith in
    let m : 2139095040 < n % 2147483648 = omega arith in
    zero_by_zero ∙ sym (a-nan n m) ∙ simp (lt-ltb _ _ l)

pub float-beyond : (n : ℕ) → 2147483648 ≤ n → 4286578688 < n → div binary32 (of_bits binary32 0) (of_bits binary32 0) ≡ float_at n
unfolding float_at
float-beyond n g h = zero_by_zero ∙ go (ltb n 4294967296) refl
  where
    go : (t : Bool) → ltb n 4294967296 ≡ t → nan ≡ pick t (of_bits binary32 n) nan
    go true e = let l : n < 4294967296 = ltb-true n 4294967296 e in let m : 2139095040 < n % 2147483648 = omega arith in sym (a-nan n m)
    go false e = refl
