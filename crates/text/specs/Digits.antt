-- The number that decimal digits write. Assumes nothing.
use Rattle.std.specs.Prelude.{List, [], ◌∷◌, ℕ, ◌+◌, ◌-◌, ◌*◌, take, drop}
use Rattle.text.specs.Scan.{run}
use Rattle.text.specs.Class.{in_class, digit}

-- the digits that start at a place
unfoldable pub digits_at : List ℕ → ℕ → List ℕ
digits_at s at = take (run (in_class digit) (drop at s)) (drop at s)

-- the value of digits behind a value; 48 is "0"
unfoldable pub value_from : ℕ → List ℕ → ℕ
value_from v [] = v
value_from v (b ∷ bs) = value_from (v * 10 + (b - 48)) bs

-- the number that digits write
unfoldable pub value : List ℕ → ℕ
value ds = value_from 0 ds
