-- A copy into a buffer. Assumes nothing.
use Rattle.std.specs.Prelude.{Bool, true, false, List, ◌++◌, ℕ, ◌+◌, leb, length, take, drop}
use Rattle.text.specs.Choice.{pick}

-- what a copy tells, and the buffer after it
pub data Copied : Type 0 where
  copied : Bool → List ℕ → Copied

-- the buffer with a string at a place, and every other byte as it was
unfoldable pub put : List ℕ → ℕ → List ℕ → List ℕ
put dst at src = take at dst ++ src ++ drop (at + length src) dst

-- where the string fits it is put there; else nothing is written
unfoldable pub copy_at : List ℕ → ℕ → List ℕ → Copied
copy_at dst at src = pick (leb (at + length src) (length dst)) (copied true (put dst at src)) (copied false dst)
