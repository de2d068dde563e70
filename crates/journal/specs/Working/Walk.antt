-- The walk over a page's entries, as the code makes it. Theorems/Content has that it finds what the page holds. Assumes nothing.
use Rattle.std.specs.Prelude.{Bool, false, List, [], ◌∷◌, ℕ, zero, suc, ◌+◌, ◌-◌, eqb, ltb, leb, length, get_or, drop, Option, Some, None}
use Rattle.text.specs.Choice.{pick}
use Rattle.text.specs.Counted.{part, pair_at}
use Rattle.journal.specs.Page.{closing}

-- the place behind the entry that stands at a place
unfoldable pub behind : List ℕ → ℕ → ℕ
behind p at = at + pair_at p at + 3

-- does a finished entry stand at a place? A length above 0, room for the answer, and a closing byte
unfoldable pub finished_at : List ℕ → ℕ → Bool
finished_at p at = pick (ltb 0 (pair_at p at)) (pick (leb (behind p at) (length p)) (eqb (get_or p (at + pair_at p at + 2) 0) closing) false) false

-- the answers of the finished entries from a place on; each takes 4 bytes or more, so the page's bytes are enough turns
unfoldable pub entries_in : ℕ → List ℕ → ℕ → List (List ℕ)
entries_in zero p at = []
entries_in (suc n) p at = pick (finished_at p at) (part p (at + 2) (pair_at p at) ∷ entries_in n p (behind p at)) []

unfoldable pub entries : List ℕ → List (List ℕ)
entries p = entries_in (length p - 1) p 1

-- the place behind the last of them
unfoldable pub end_in : ℕ → List ℕ → ℕ → ℕ
end_in zero p at = at
end_in (suc n) p at = pick (finished_at p at) (end_in n p (behind p at)) at

unfoldable pub end_at : List ℕ → ℕ → ℕ
end_at p at = end_in (length p - at) p at

-- what lies behind it
unfoldable pub rest_of : List ℕ → List ℕ
rest_of p = drop (end_at p 1) p

-- the place behind the finished entry at a place, or that place where none stands
unfoldable pub next_at : List ℕ → ℕ → ℕ
next_at p at = pick (finished_at p at) (behind p at) at

-- the place behind the finished entry at a place, if one stands there
unfoldable pub entry_behind : List ℕ → ℕ → Option ℕ
entry_behind p at = pick (finished_at p at) (Some (behind p at)) None
