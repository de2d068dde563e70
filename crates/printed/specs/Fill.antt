-- Writing into a buffer as much as fits. Assumes nothing.
use Rattle.std.specs.Prelude.{List, ℕ, ◌+◌, ◌-◌, min, length, take}
use Rattle.text.specs.Copy.{put}

-- the place behind what is written, and the buffer
pub data Filled : Type 0 where
  filled : ℕ → List ℕ → Filled

-- a text at a place: as many of its bytes as fit, and every other byte as it was
unfoldable pub fill_at : List ℕ → ℕ → List ℕ → Filled
fill_at out at text = filled (at + min (length text) (length out - at)) (put out at (take (length out - at) text))
