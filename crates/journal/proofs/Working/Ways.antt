-- The ways out of the journal's functions, and the turns of their loops. Assumes nothing.
use Rattle.std.specs.Prelude.{◌≡◌, ℕ, ◌+◌, ◌-◌, ◌<◌, ◌≤◌, set, take}
use Rattle.std.proofs.Math.Path.{ap}
use Rattle.std.proofs.Common.{◌∙◌}
use mathlib.Core.List.{List}
use native.Mathlib.Omega.{arith}
use Rattle.std.proofs.Math.ListN.{length}
use Rattle.journal.specs.Stores.{stored, cleared}
use Rattle.journal.specs.Working.Placing.{stored_next, cleared-length, cleared_at}

module _ (m₀ : List ℕ) (at : ℕ) (count j : ℕ) (m : List ℕ) (inv : m ≡ stored m₀ (take j (cleared (length m₀ - at) at))) where
  pub clear-more : at ≤ length m₀ → count ≤ length m₀ - at → length m ≡ length m₀ → j < count
      → set m (length m - 1 - j) 0 ≡ stored m₀ (take (j + 1) (cleared (length m₀ - at) at))
  clear-more w c l h =
      let q : j < length m₀ - at = omega arith in
      let k : j < length (cleared (length m₀ - at) at) = rw (cleared-length (length m₀ - at) at) q in
      let i : at + (length m₀ - at) - 1 - j ≡ length m₀ - 1 - j = omega arith in
      rw (l, inv) (stored_next m₀ (cleared (length m₀ - at) at) j (length m₀ - 1 - j) 0 k
      (cleared_at (length m₀ - at) at j q ∙ ap (λ (x : ℕ). (x, 0)) i))
