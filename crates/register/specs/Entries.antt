-- What a register holds: an entry at each place, and the number of all moves ever issued. Assumes nothing.
use Rattle.std.specs.Prelude.{Bool, true, false, List, [], ◌∷◌, ℕ, ◌+◌, ◌-◌, eqb, replicate}
use Rattle.text.specs.Choice.{pick}
use Rattle.register.specs.Limits.{most_principals}

-- an entry: free, or a principal, "here a four-byte number", with its moves
pub data Entry : Type 0 where
  free : Entry
  held : ℕ → ℕ → Entry

-- the entries in place order, and all moves ever issued
pub record Contents : Type 0 where
  pub entries : List Entry
  pub issued : ℕ

unfoldable pub empty : Contents
empty = record { entries = replicate most_principals free; issued = 0 }

-- whether a principal is held
unfoldable pub known : ℕ → List Entry → Bool
known x [] = false
known x (free ∷ es) = known x es
known x (held y m ∷ es) = pick (eqb y x) true (known x es)

-- the moves that a principal holds
unfoldable pub moves_of : ℕ → List Entry → ℕ
moves_of x [] = 0
moves_of x (free ∷ es) = moves_of x es
moves_of x (held y m ∷ es) = pick (eqb y x) m (moves_of x es)

-- all moves held
unfoldable pub total : List Entry → ℕ
total [] = 0
total (free ∷ es) = total es
total (held x m ∷ es) = m + total es

-- how many principals are held
unfoldable pub principals : List Entry → ℕ
principals [] = 0
principals (free ∷ es) = principals es
principals (held x m ∷ es) = 1 + principals es

-- "a principal twice"
unfoldable pub twice : List Entry → Bool
twice [] = false
twice (free ∷ es) = twice es
twice (held x m ∷ es) = pick (known x es) true (twice es)

-- "added .. at the first place free or freed"
unfoldable pub added : ℕ → ℕ → List Entry → List Entry
added x n [] = []
added x n (free ∷ es) = held x n ∷ es
added x n (held y m ∷ es) = held y m ∷ added x n es

-- another entry where a principal stands
unfoldable pub replaced : ℕ → Entry → List Entry → List Entry
replaced x e [] = []
replaced x e (free ∷ es) = free ∷ replaced x e es
replaced x e (held y m ∷ es) = pick (eqb y x) (e ∷ es) (held y m ∷ replaced x e es)

-- more moves for a principal, and fewer
abbrev pub gained : ℕ → ℕ → List Entry → List Entry
gained x n es = replaced x (held x (moves_of x es + n)) es

abbrev pub lost : ℕ → ℕ → List Entry → List Entry
lost x n es = replaced x (held x (moves_of x es - n)) es
