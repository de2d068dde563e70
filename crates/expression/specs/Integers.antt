-- "Integers are 32-bit signed. Error: outside the range, zero divisor, negative exponent." Assumes nothing.
use Rattle.std.specs.Prelude.{Bool, true, false, not, ℕ, zero, suc, ◌+◌, ◌-◌, ◌*◌, ◌/◌, ◌%◌, eqb, ltb, leb}
use Rattle.text.specs.Choice.{pick}
use Rattle.text.specs.Decimal.{integer as signed}
use Rattle.text.specs.declared.Integer.{Integer}
use Rattle.std.specs.declared.cmp.Ordering.{Ordering as Order}
use Rattle.std.specs.declared.cmp.Ordering.TheVariants.{Less, Equal, Greater}
use Rattle.expression.specs.Value.{Value, integer, fault}

-- an integer by sign and size; "outside the range" is a fault, and 0 has no sign
unfoldable pub ranged : Bool → ℕ → Value
ranged n m = pick (eqb m 0) (integer (signed false 0)) (pick (ltb (pick n 2147483648 2147483647) m) fault (integer (signed n m)))

-- a size less another, which turns the sign where it is more
unfoldable pub apart : Bool → ℕ → ℕ → Value
apart n x y = pick (leb y x) (ranged n (x - y)) (ranged (not n) (y - x))

unfoldable pub plus : Integer → Integer → Value
plus a b =
    pick a.negative (pick b.negative (ranged true (a.size + b.size)) (apart true a.size b.size))
    (pick b.negative (apart false a.size b.size) (ranged false (a.size + b.size)))

unfoldable pub negated : Integer → Value
negated a = ranged (not a.negative) a.size

unfoldable pub minus : Integer → Integer → Value
minus a b = plus a (signed (not b.negative) b.size)

unfoldable pub differ : Bool → Bool → Bool
differ a b = pick a (not b) b

unfoldable pub times : Integer → Integer → Value
times a b = ranged (differ a.negative b.negative) (a.size * b.size)

-- "Division goes toward zero"
unfoldable pub over : Integer → Integer → Value
over a b = pick (eqb b.size 0) fault (ranged (differ a.negative b.negative) (a.size / b.size))

-- "% has the dividend's sign"
unfoldable pub remainder : Integer → Integer → Value
remainder a b = pick (eqb b.size 0) fault (ranged a.negative (a.size % b.size))

-- v times x, n times
unfoldable pub raised_to : ℕ → ℕ → ℕ → ℕ
raised_to v x zero = v
raised_to v x (suc n) = raised_to (v * x) x n

unfoldable pub odd : ℕ → Bool
odd n = eqb (n % 2) 1

unfoldable pub sign_of_power : Bool → ℕ → Bool
sign_of_power n k = pick (odd k) n false

-- "x^0 = 1"; "negative exponent" is a fault
unfoldable pub power : Integer → Integer → Value
power a b =
    pick (eqb b.size 0) (integer (signed false 1))
    (pick b.negative fault (ranged (sign_of_power a.negative b.size) (raised_to 1 a.size b.size)))

-- the order of integers
unfoldable pub sizes : ℕ → ℕ → Order
sizes x y = pick (ltb x y) Less (pick (ltb y x) Greater Equal)

unfoldable pub compared : Integer → Integer → Order
compared a b = pick a.negative (pick b.negative (sizes b.size a.size) Less) (pick b.negative Greater (sizes a.size b.size))
