-- "Each operation rounds once"; "An infinite or not-a-number result is an error." Assumes nothing.
use Rattle.std.specs.Prelude.{Bool, true, false, ℕ, zero, suc, pos, Float, None, Option, Some}
use Rattle.std.specs.Float.{nan, inf, fin, binary32}
use Rattle.std.specs.Float.Ieee.{add, sub, mul, div, neg, eq, of_int}
use Rattle.text.specs.Choice.{pick}

-- what an operation gives: a finite float, or nothing where the result is an error
abbrev pub Computed : Type 0
Computed = Option Float

unfoldable pub is_finite : Float → Bool
is_finite nan = false
is_finite (inf s) = false
is_finite (fin s m e) = true

unfoldable pub checked : Float → Computed
checked x = pick (is_finite x) (Some x) None

-- the language's operations; `Theorems.Each` says in whole numbers what each gives
unfoldable pub plus : Float → Float → Computed
plus a b = checked (add binary32 a b)

unfoldable pub minus : Float → Float → Computed
minus a b = checked (sub binary32 a b)

unfoldable pub times : Float → Float → Computed
times a b = checked (mul binary32 a b)

unfoldable pub over : Float → Float → Computed
over a b = checked (div binary32 a b)

unfoldable pub negated : Float → Computed
negated a = checked (neg a)

-- 1.0
abbrev pub one : Float
one = fin false 1 (pos 0)

-- "left-to-right multiplication from 1.0": v times x, n times, each product checked
unfoldable pub raised_from : ℕ → Float → Float → Computed
raised_from zero x v = Some v
raised_from (suc n) x v = pick (is_finite (mul binary32 v x)) (raised_from n x (mul binary32 v x)) None

unfoldable pub raised : ℕ → Float → Computed
raised n x = raised_from n x one

-- "for a float exponent whose value is a whole number 0 to 64, and any other exponent is an error": of k whole numbers from n on
unfoldable pub power_from : ℕ → ℕ → Float → Float → Computed
power_from zero n x y = None
power_from (suc k) n x y = pick (eq (of_int binary32 (pos n)) y) (raised n x) (power_from k (suc n) x y)

unfoldable pub power : Float → Float → Computed
power x y = power_from 65 0 x y
