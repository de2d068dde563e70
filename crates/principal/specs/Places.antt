-- Principals as numbers: the place of one in a list. Assumes nothing.
use Rattle.std.specs.Prelude.{List, [], ◌∷◌, ℕ, suc}
use Rattle.text.specs.Choice.{pick}
use Rattle.principal.specs.Principal.{Principal, same}

-- the index of p: the first place whose principal is the same
unfoldable pub place : List Principal → Principal → ℕ
place [] p = 0
place (q ∷ names) p = pick (same p q) 0 (suc (place names p))
