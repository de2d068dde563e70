-- A front of a slice is as long as was asked. Assumes nothing.
use Rattle.std.specs.Prelude.{◌≡◌, List, ℕ, ◌≤◌, length, take}
use Rattle.std.proofs.Common.{sym, length-take-le}

pub front_length : (s : List ℕ) (k : ℕ) → k ≤ length s → k ≡ length (take k s)
front_length s k h = sym (length-take-le k s h)
