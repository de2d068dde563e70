-- "the nearest 32-bit float, ties to even", over whole numbers alone. Assumes nothing.
use Rattle.std.specs.Prelude.{◌≡◌, cond, ℕ, ◌+◌, ◌-◌, ◌*◌, ◌/◌, ◌%◌, ◌^◌, ◌≤◌, ltb}

-- A float that is not negative is its bit pattern b: b / 2 ^ 23 is the exponent, b % 2 ^ 23 the digits. Its exact value, in units of 2 ^ -149, the
-- smallest float. Patterns go on past the largest finite float: 0x7f80_0000, read as the infinity, stands for 2 ^ 128, and so on.
unfoldable pub val : ℕ → ℕ
val b = cond (ltb b 8388608) b ((8388608 + b % 8388608) * 2 ^ (b / 8388608 - 1))

-- how far two numbers are apart
abbrev pub apart : ℕ → ℕ → ℕ
apart x y = (x - y) + (y - x)

-- of all patterns b is nearest to the fraction x / c of such units, and even where another is as near
pub record Nearest (x c b : ℕ) : Type 0 where
  pub near : (d : ℕ) → apart x (val b * c) ≤ apart x (val d * c)
  pub even : (d : ℕ) → (d ≡ b → ⊥) → apart x (val b * c) ≡ apart x (val d * c) → b % 2 ≡ 0
