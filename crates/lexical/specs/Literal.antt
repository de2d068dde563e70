-- A literal: its units, where it ends, and what it gives. Assumes nothing.
use Rattle.std.specs.Prelude.{Bool, List, [], ◌∷◌, ℕ, zero, suc, ◌+◌, ◌-◌, eqb, leb, length}
use Rattle.text.specs.Choice.{pick}
use Rattle.lexical.specs.declared.unit.Unit.{Unit}
use Rattle.lexical.specs.Unit.{GIVES, CLOSES, kind, width, byte, unit_at}

-- a unit with which the literal goes on
abbrev pub inside : Unit → Bool
inside u = leb (kind u) GIVES

-- at most n units from i on, up to the first with which the literal does not go on
unfoldable pub units : ℕ → List ℕ → ℕ → List Unit
units zero s i = []
units (suc n) s i = unit_at s i ∷ pick (inside (unit_at s i)) (units n s (i + width (unit_at s i))) []

-- all of them: each takes a byte at least
unfoldable pub units_at : List ℕ → ℕ → List Unit
units_at s i = units (suc (length s - i)) s i

-- the place behind the closing quote, or 0 where there is none
abbrev pub closing : ℕ → List Unit → ℕ
closing i [] = 0
closing i (u ∷ us) = pick (eqb (kind u) CLOSES) (i + 1) (closing (i + width u) us)

-- the bytes that units give
abbrev pub given : List Unit → List ℕ
given [] = []
given (u ∷ us) = pick (eqb (kind u) GIVES) (byte u ∷ given us) (given us)

-- the end of the literal whose opening quote stands before i; 0 where it does not close or holds something illegal
unfoldable pub literal_end : List ℕ → ℕ → ℕ
literal_end s i = closing i (units_at s i)

-- what the literal whose opening quote stands at `start` gives
unfoldable pub decoded_at : List ℕ → ℕ → List ℕ
decoded_at s start = given (units_at s (start + 1))

-- what the bytes between two quotes give
unfoldable pub decode : List ℕ → List ℕ
decode xs = given (units_at xs 0)
