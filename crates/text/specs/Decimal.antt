-- "@ takes an optional "-", digits, optional "." and digits (one or more each time), rounds down; anything else, or out of range, is 0."
-- Assumes nothing.
use Rattle.std.specs.Prelude.{Bool, true, false, List, [], ◌∷◌, ℕ, ◌+◌, eqb, ltb, leb, length, get_or, take, drop}
use Rattle.text.specs.Choice.{pick}
use Rattle.text.specs.Scan.{run}
use Rattle.text.specs.Class.{in_class, digit}
use Rattle.text.specs.Digits.{value}
use Rattle.text.specs.declared.Integer.{Integer}

-- an integer is a sign and a size; 0 has no sign
abbrev pub integer : Bool → ℕ → Integer
integer n m = record { negative = n; size = m }

-- "Integers are 32-bit signed": the integer, or 0 where it is out of range
unfoldable pub in_range : Bool → ℕ → Integer
in_range n m = pick (eqb m 0) (integer false 0) (pick (ltb (pick n 2147483648 2147483647) m) (integer false 0) (integer n m))

-- "rounds down": below 0 a fraction takes it one further
unfoldable pub rounded_down : Bool → ℕ → ℕ → Integer
rounded_down n whole fraction = in_range n (pick n (pick (eqb fraction 0) whole (whole + 1)) whole)

-- the digits behind the point, one or more and nothing else
unfoldable pub with_fraction : Bool → ℕ → List ℕ → Integer
with_fraction n whole ds =
    pick (eqb (run (in_class digit) ds) 0) (integer false 0)
    (pick (ltb (run (in_class digit) ds) (length ds)) (integer false 0) (rounded_down n whole (value ds)))

-- digits, and behind them nothing or "." and digits
unfoldable pub unsigned : Bool → List ℕ → Integer
unsigned n s =
    pick (eqb (run (in_class digit) s) 0) (integer false 0)
    (pick (leb (length s) (run (in_class digit) s)) (rounded_down n (value s) 0)
    (pick (eqb (get_or s (run (in_class digit) s) 0) 46)
    (with_fraction n (value (take (run (in_class digit) s) s)) (drop (run (in_class digit) s + 1) s)) (integer false 0)))

-- an optional "-" first
unfoldable pub decimal : List ℕ → Integer
decimal [] = integer false 0
decimal (b ∷ bs) = pick (eqb b 45) (unsigned true bs) (unsigned false (b ∷ bs))
