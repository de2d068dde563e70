-- A number, or a string behind its length, put at a place. Assumes nothing.
use Rattle.std.specs.Prelude.{false, List, ℕ, ltb, length}
use Rattle.text.specs.Choice.{pick}
use Rattle.text.specs.Copy.{Copied, copied, copy_at}
use Rattle.text.specs.Counted.{pair_bytes, counted_bytes}

-- a number below 65,536 put at a place in two bytes, where there is room; else nothing is written
unfoldable pub put_pair : List ℕ → ℕ → ℕ → Copied
put_pair dst at n = pick (ltb 65535 n) (copied false dst) (copy_at dst at (pair_bytes n))

-- a string of fewer than 65,536 bytes put at a place behind its length, where there is room; else nothing is written
unfoldable pub put_counted : List ℕ → ℕ → List ℕ → Copied
put_counted dst at b = pick (ltb 65535 (length b)) (copied false dst) (copy_at dst at (counted_bytes b))
