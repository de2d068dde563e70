-- Working definitions: one more instruction at the end of the code, and the ways out of the function that writes it. Assumes nothing.
use Rattle.std.specs.Prelude.{◌≡◌, List, ℕ, ◌+◌, ◌<◌, ◌≤◌, leb, length, set}
use Rattle.std.proofs.Common.{le-leb}
use Rattle.std.proofs.lemmas.Bool.{lt-leb}
use Rattle.text.specs.Choice.{pick}

-- the code's end behind one more instruction, where there is room
unfoldable pub above : List ℕ → ℕ → ℕ
above code size = pick (leb (length code) size) size (size + 1)

-- the code with it
unfoldable pub pushed : List ℕ → ℕ → ℕ → List ℕ
pushed code size x = pick (leb (length code) size) code (set code size x)

-- `push`
module _ (code : List ℕ) (size : ℕ) where
  pub above-full : length code ≤ size → size ≡ above code size
  unfolding above
  above-full h = simp (le-leb _ _ h)

  pub above-room : size < length code → size + 1 ≡ above code size
  unfolding above
  above-room h = simp (lt-leb _ _ h)

  pub pushed-full : (x : ℕ) → length code ≤ size → code ≡ pushed code size x
  unfolding pushed
  pushed-full x h = simp (le-leb _ _ h)

  pub pushed_room : (x : ℕ) → size < length code → set code size x ≡ pushed code size x
  unfolding pushed
  pushed_room x h = simp (lt-leb _ _ h)
