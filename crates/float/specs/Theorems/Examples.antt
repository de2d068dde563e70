-- The examples that OPEN-POINTS-02 rules, F01 to F03 and F06 to F08, by computation; and where the theorems' premises hold and where they don't.
-- Assumes nothing.
use Rattle.std.specs.Prelude.{◌≡◌, refl, true, false, List, [], ◌∷◌, ℕ, ◌^◌, ◌*◌, ◌≤◌, pos, negsuc, Float, None, Some}
use Rattle.std.proofs.Common.{sym, ap, ◌∙◌, inl, arith, le_of_eq, mul-zero, lit≤}
use Prim.Native.Char.{code}
use Prim.Native.String.{String, [] as nothing, ◌∷◌ as ◌then◌}
use Rattle.std.specs.Float.{fin, binary32}
use Rattle.std.specs.Float.Ieee.{mul, div, eq, of_int, round, fits, to_bits, of_bits}
use Rattle.text.specs.Class.{in_class, is_digit}
use Rattle.text.specs.Digits.{value, value_from}
use Rattle.float.specs.Nearest.{val, apart, Nearest}
use Rattle.float.specs.Bits.{float_at}
use Rattle.float.specs.Decimal.{decimal}
use Rattle.float.specs.Written.{amount_of, with_fraction, unsigned, float_of}
use Rattle.float.specs.Operations.{is_finite, checked, times, over, one, raised_from, raised, power_from, power}
use Rattle.float.specs.Theorems.Exponent.{IsWhole}
use Rattle.float.specs.Theorems.Power.{power-whole, power-other}
use Rattle.float.specs.Theorems.Held.{float_back}

-- the bytes of a text, and the bits of the float that it writes
unfoldable pub bytes : String → List ℕ
bytes nothing = []
bytes (c then s) = code c ∷ bytes s

unfoldable pub bits : String → ℕ
bits s = to_bits binary32 (float_of (bytes s))

-- a text and its bits
pub data Row : Type 0 where
  row : String → ℕ → Row

unfoldable pub Ruled : List Row → Type 0
Ruled [] = Unit
Ruled (row s n ∷ l) = (bits s ≡ n) × Ruled l

-- "Which digits are counted"
unfoldable pub f01 : List Row
f01 =
    row "999999999999999999" 0x5d5e_0b6b ∷ row "1000000000000000000" 0 ∷ row "0000000000000000001" 0
    ∷ row "000000000000000001" 0x3f80_0000 ∷ row "-12345678901234567.8" 0xda2f_7151 ∷ row "-123456789012345678.0" 0 ∷ []

pub digits-counted : Ruled f01
unfolding f01 Ruled bits bytes float_of unsigned with_fraction amount_of in_class is_digit value value_from decimal round to_bits of_bits
digits-counted = (refl, (refl, (refl, (refl, (refl, (refl, tt))))))

-- "Text for "&""
unfoldable pub f02 : List Row
f02 =
    row "1" 0x3f80_0000 ∷ row "-1.5" 0xbfc0_0000 ∷ row "1." 0 ∷ row ".5" 0 ∷ row "+1" 0 ∷ row " 1" 0 ∷ row "1e3" 0 ∷ row "" 0 ∷ row "--1" 0 ∷ []

pub text-ruled : Ruled f02
unfolding f02 Ruled bits bytes float_of unsigned with_fraction amount_of in_class is_digit value value_from decimal round to_bits of_bits
text-ruled = (refl, (refl, (refl, (refl, (refl, (refl, (refl, (refl, (refl, tt)))))))))

-- "The nearest float"
unfoldable pub f03 : List Row
f03 =
    row "16777217" 0x4b80_0000 ∷ row "16777219" 0x4b80_0002 ∷ row "16777217.0000000001" 0x4b80_0001 ∷ row "0.1" 0x3dcc_cccd
    ∷ row "8388608.5" 0x4b00_0000 ∷ row "8388609.5" 0x4b00_0002 ∷ row "1.00000005960464477" 0x3f80_0000
    ∷ row "1.00000005960464478" 0x3f80_0001 ∷ row "0.00000000000000001" 0x2338_77aa ∷ row "-0" 0x8000_0000 ∷ []

pub nearest-ruled : Ruled f03
unfolding f03 Ruled bits bytes float_of unsigned with_fraction amount_of in_class is_digit value value_from decimal round to_bits of_bits
nearest-ruled = (refl, (refl, (refl, (refl, (refl, (refl, (refl, (refl, (refl, (refl, tt))))))))))

pub beyond : to_bits binary32 (decimal false (2 ^ 129) 0) ≡ 0x7f80_0000
unfolding decimal round to_bits
beyond = refl

-- "^"
abbrev two : Float
two = fin false 1 (pos 1)

abbrev half : Float
half = fin false 1 (negsuc 0)

pub two-64 : power two (fin false 1 (pos 6)) ≡ Some (fin false 1 (pos 64))
unfolding power power_from raised raised_from is_finite mul eq of_int round
two-64 = refl

pub two-65 : power two (fin false 65 (pos 0)) ≡ None
unfolding power power_from eq of_int round
two-65 = refl

pub root : power one half ≡ None
unfolding power power_from eq of_int round
root = refl

pub minus_one : power one (fin true 1 (pos 0)) ≡ None
unfolding power power_from eq of_int round
minus_one = refl

pub minus-zero : power two (fin true 0 (pos 0)) ≡ Some one
unfolding power power_from raised raised_from eq of_int round
minus-zero = refl

-- the premise of `power-whole`: 64.0 is the whole number 64, and 0.5 is none
pub whole-64 : IsWhole 64 (fin false 1 (pos 6))
whole-64 = (refl, inl refl)

pub power-64 : power two (fin false 1 (pos 6)) ≡ raised 64 two
power-64 = power-whole two (fin false 1 (pos 6)) 64 (lit≤ tt) whole-64

pub no_whole : (n : ℕ) → n ≤ 64 → IsWhole n half → ⊥
no_whole n h w = let e : 1 ≡ n * 2 = w.0 in let no : ⊥ = omega (arith, e) in no

pub power-half : power one half ≡ None
power-half = power-other one half no_whole

-- very small floats: 2 ^ -149 is there, 2 ^ -150 is 0
pub tiny : times (fin false 1 (negsuc 127)) (fin false 1 (negsuc 20)) ≡ Some (fin false 1 (negsuc 148))
unfolding times checked is_finite mul round
tiny = refl

pub gone : times (fin false 1 (negsuc 127)) (fin false 1 (negsuc 21)) ≡ Some (fin false 0 (pos 0))
unfolding times checked is_finite mul round
gone = refl

-- infinite in between, and a division by zero
pub too-big : times (fin false 1 (pos 64)) (fin false 1 (pos 64)) ≡ None
unfolding times checked is_finite mul round
too-big = refl

pub by_zero : over one (fin true 0 (pos 0)) ≡ None
unfolding over checked is_finite div
by_zero = refl

pub zero_by_zero : over (fin false 0 (pos 0)) (fin false 0 (pos 0)) ≡ None
unfolding over checked is_finite div
zero_by_zero = refl

-- the premise of `float_back`: 1.0 is its bits, and 2 ^ 24 + 1, which no 32-bit float is, is not
pub one-back : float_at (to_bits binary32 one) ≡ one
unfolding fits
one-back = float_back one tt

pub odd_number : fits binary32 (fin false 16777217 (pos 0)) ≡ false
unfolding fits
odd_number = refl

-- the premise of `only`, a denominator above 0: over 0 every pattern is as near as any other
pub many : Nearest 0 0 0 × Nearest 0 0 2
many = (record { near = λ d. le_of_eq (alike 0 d); even = λ d ne e. refl }, record { near = λ d. le_of_eq (alike 2 d); even = λ d ne e. refl })
  where
    alike : (b d : ℕ) → apart 0 (val b * 0) ≡ apart 0 (val d * 0)
    alike b d = ap (apart 0) (mul-zero (val b) ∙ sym (mul-zero (val d)))
