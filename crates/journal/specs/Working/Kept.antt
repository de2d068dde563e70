-- The page that recovery leaves, cut or whole. Assumes nothing.
use Rattle.std.specs.Prelude.{◌≡◌, List, ℕ, ◌-◌, ◌≤◌, take}
use Rattle.std.proofs.Common.{ap, arith, take_all}
use Rattle.std.proofs.Math.ListN.{length}
use Rattle.journal.specs.Stores.{Store, stored, cleared}
use Rattle.journal.specs.Working.Walk.{end_at}
use Rattle.journal.specs.Working.Placing.{stored-length, cleared-length}

-- the page after recovery
unfoldable pub kept : List ℕ → List ℕ
kept p = stored p (cleared (length p - end_at p 1) (end_at p 1))

-- the page after the first k stores of recovery
unfoldable pub kept_cut : ℕ → List ℕ → List ℕ
kept_cut k p = stored p (take k (cleared (length p - end_at p 1) (end_at p 1)))

pub kept-cut : (p : List ℕ) (k : ℕ) → length p - end_at p 1 ≤ k → kept_cut k p ≡ kept p
unfolding kept kept_cut
kept-cut p k h = ap (λ (ss : List Store). stored p ss) (take_all k (cleared (length p - end_at p 1) (end_at p 1)) (omega (arith, cleared-length (length p - end_at p 1) (end_at p 1))))

pub kept-long : (p : List ℕ) → length (kept p) ≡ length p
unfolding kept
kept-long p = stored-length p (cleared (length p - end_at p 1) (end_at p 1))
