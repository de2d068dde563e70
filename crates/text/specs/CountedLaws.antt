-- What putting a number in two bytes does where there is room. Assumes nothing.
use Rattle.std.specs.Prelude.{◌≡◌, Bool, true, List, ℕ, ◌+◌, ◌≤◌, length}
use Rattle.std.proofs.Common.{◌∙◌}
use borrow.Author.Tests.{le-ltb, le-leb}
use Rattle.text.specs.Copy.{copied, put, copy_at}
use Rattle.text.specs.Counted.{pair_bytes}
use Rattle.text.specs.Put.{put_pair}

copied_is : {c c' : Bool} {m m' : List ℕ} → copied c m ≡ copied c' m' → m ≡ m'
copied_is e = cc

module _ (d : List ℕ) (at n : ℕ) (small : n ≤ 65535) (room : at + 2 ≤ length d) where
  pub pair-room : put_pair d at n ≡ copied true (put d at (pair_bytes n))
  unfolding put_pair copy_at pair_bytes
  pair-room = rw (le-ltb 65535 n small, le-leb (at + 2) (length d) room)

  pub pair_put : (u : Bool) (e : List ℕ) → copied u e ≡ put_pair d at n → e ≡ put d at (pair_bytes n)
  pair_put u e is = copied_is (is ∙ pair-room)
