-- What a closure tests. Assumes nothing.
use Rattle.std.specs.Prelude.{◌≡◌, Bool, ℕ, ◌<◌}

-- it answers for each byte as the test p does
pub record Tests (post : ℕ → Bool → Type 0) (p : ℕ → Bool) : Type 0 where
  pub same : (b : ℕ) (r : Bool) → b < 256 → post b r → r ≡ p b
