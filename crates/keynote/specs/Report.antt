-- The report. Assumes nothing.
use Rattle.std.specs.Prelude.{List, [], ◌∷◌, ◌++◌, ℕ, ◌+◌, ◌*◌, length}
use Rattle.assertion.specs.Read.{Read, kept, dropped}
use Rattle.text.specs.Counted.{pair_bytes}

-- "Reasons (0 is kept [..] with place 0)"
unfoldable pub reason_of : Read → ℕ
reason_of (kept a) = 0
reason_of (dropped r p) = r

unfoldable pub place_of : Read → ℕ
place_of (kept a) = 0
place_of (dropped r p) = p

-- "for each of n assertions a reason byte and a two-byte place"
unfoldable pub entry_bytes : Read → List ℕ
entry_bytes r = reason_of r ∷ pair_bytes (place_of r)

unfoldable pub entries_bytes : List Read → List ℕ
entries_bytes [] = []
entries_bytes (r ∷ l) = entry_bytes r ++ entries_bytes l

-- "byte 1, two-byte length 3n", then the entries
unfoldable pub report : List Read → List ℕ
report l = 1 ∷ pair_bytes (3 * length l) ++ entries_bytes l

-- "It needs 3 + 3n bytes"
unfoldable pub report_size : ℕ → ℕ
report_size n = 3 + 3 * n
