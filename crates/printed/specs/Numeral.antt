-- Numbers in decimal. Assumes nothing.
use Rattle.std.specs.Prelude.{List, [], ◌∷◌, ◌++◌, ℕ, zero, suc, ◌+◌, ◌/◌, ◌%◌, ltb}
use Rattle.text.specs.Choice.{pick}

-- the last digit of a number
unfoldable pub last_digit : ℕ → List ℕ
last_digit n = (48 + n % 10) ∷ []

-- the digits of a number, with no zeros in front, in at most so many steps
unfoldable pub digits : ℕ → ℕ → List ℕ
digits zero n = last_digit n
digits (suc k) n = pick (ltb n 10) (last_digit n) (digits k (n / 10) ++ last_digit n)

-- a number in decimal: it has fewer digits than steps
unfoldable pub decimal : ℕ → List ℕ
decimal n = digits n n
