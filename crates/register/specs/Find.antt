-- Where a principal stands, and the work of finding it. Assumes nothing.
use Rattle.std.specs.Prelude.{List, [], ◌∷◌, ℕ, ◌+◌, eqb}
use Rattle.text.specs.Choice.{pick}
use Rattle.register.specs.Entries.{Entry, free, held}
use Rattle.register.specs.declared.Found.{Found}
use Rattle.register.specs.declared.Found.TheVariants.{At, Missing}

-- "the held entries compared in place order up to it": a walk from a place on, with the work so far; free places are passed over
unfoldable pub walk : ℕ → ℕ → List Entry → ℕ → Found
walk i w [] x = Missing w
walk i w (free ∷ es) x = walk (i + 1) w es x
walk i w (held y m ∷ es) x = pick (eqb y x) (At i (w + 1)) (walk (i + 1) (w + 1) es x)

unfoldable pub find : List Entry → ℕ → Found
find es x = walk 0 0 es x
