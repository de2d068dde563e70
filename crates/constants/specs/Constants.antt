-- How a buffer of constants begins. Assumes nothing.
use Rattle.std.specs.Prelude.{List, ℕ, ◌+◌, eqb, ltb, leb, length}
use Rattle.text.specs.Choice.{pick}
use Rattle.text.specs.Copy.{put}
use Rattle.record.specs.Encode.{string_bytes}

-- the place behind what was written, or 0; and the buffer
pub data Written : Type 0 where
  written : ℕ → List ℕ → Written

-- a string behind its two-byte length, where both fit; else nothing is written
unfoldable pub counted_into : List ℕ → ℕ → List ℕ → Written
counted_into dst at b =
    pick (ltb 65535 (length b)) (written 0 dst)
    (pick (leb (at + 2 + length b) (length dst)) (written (at + 2 + length b) (put dst at (string_bytes b))) (written 0 dst))

abbrev pub and_then : Written → (ℕ → List ℕ → Written) → Written
and_then (written p d) k = pick (eqb p 0) (written 0 d) (k p d)

-- "beside which the two joined texts are built beforehand"
unfoldable pub begun_into : List ℕ → List ℕ → List ℕ → Written
begun_into dst a b = and_then (counted_into dst 0 a) (λ p d. counted_into d p b)
