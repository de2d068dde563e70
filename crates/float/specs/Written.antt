-- "Literals and converted text of at most 18 digits become the nearest 32-bit float"; "longer or malformed text converts to zero". Assumes nothing.
use Rattle.std.specs.Prelude.{Bool, true, false, List, [], ◌∷◌, ◌++◌, ℕ, ◌+◌, eqb, ltb, leb, length, get_or, take, drop, Float}
use Rattle.std.specs.Float.Ieee.{of_bits}
use Rattle.std.specs.Float.{binary32}
use Rattle.text.specs.Choice.{pick}
use Rattle.text.specs.Scan.{run}
use Rattle.text.specs.Class.{in_class, digit}
use Rattle.text.specs.Digits.{value}
use Rattle.float.specs.Decimal.{decimal}

-- zero
abbrev pub nought : Float
nought = of_bits binary32 0

-- "digits as one integer over a power of ten", at most 18 of them
unfoldable pub amount_of : Bool → List ℕ → List ℕ → Float
amount_of n whole fraction = pick (ltb 18 (length whole + length fraction)) nought (decimal n (value (whole ++ fraction)) (length fraction))

-- the digits behind the point, one or more and nothing else
unfoldable pub with_fraction : Bool → List ℕ → List ℕ → Float
with_fraction n whole ds =
    pick (eqb (run (in_class digit) ds) 0) nought
    (pick (ltb (run (in_class digit) ds) (length ds)) nought (amount_of n whole ds))

-- digits, and behind them nothing or "." and digits
unfoldable pub unsigned : Bool → List ℕ → Float
unsigned n s =
    pick (eqb (run (in_class digit) s) 0) nought
    (pick (leb (length s) (run (in_class digit) s)) (amount_of n s [])
    (pick (eqb (get_or s (run (in_class digit) s) 0) 46)
    (with_fraction n (take (run (in_class digit) s) s) (drop (run (in_class digit) s + 1) s)) nought))

-- an optional "-" first
unfoldable pub float_of : List ℕ → Float
float_of [] = nought
float_of (b ∷ bs) = pick (eqb b 45) (unsigned true bs) (unsigned false (b ∷ bs))
