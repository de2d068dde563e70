-- Strings behind a two-byte length. Assumes nothing.
use Rattle.std.specs.Prelude.{List, [], ◌∷◌, ◌++◌, ℕ, ◌+◌, ◌-◌, ◌*◌, ◌/◌, ◌%◌, ltb, length, get_or, take, drop}
use Rattle.text.specs.Choice.{pick}

-- n elements from a place on
unfoldable pub part : List ℕ → ℕ → ℕ → List ℕ
part s at n = take n (drop at s)

-- "lengths are two bytes, big-endian": the number at a place
unfoldable pub pair_at : List ℕ → ℕ → ℕ
pair_at s at = get_or s at 0 * 256 + get_or s (at + 1) 0

-- the string that starts at a place, its length in the two bytes before it; empty where it doesn't fit
unfoldable pub counted : List ℕ → ℕ → List ℕ
counted s at =
    pick (ltb at 2) []
    (pick (ltb (length s) at) []
    (pick (ltb (length s - at) (pair_at s (at - 2))) [] (part s at (pair_at s (at - 2)))))

-- "two bytes, big-endian": those that write a number below 65,536
unfoldable pub pair_bytes : ℕ → List ℕ
pair_bytes n = n / 256 ∷ n % 256 ∷ []

-- "lengths are two bytes, big-endian, before what they measure": a string behind its length
unfoldable pub counted_bytes : List ℕ → List ℕ
counted_bytes b = pair_bytes (length b) ++ b
