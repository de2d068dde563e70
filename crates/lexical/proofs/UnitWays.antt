-- How far a run goes that a backslash before a newline drops, as `using` lists it. Assumes nothing.
use Rattle.std.proofs.Common.{◌≡◌, Bool, List, ℕ, ◌+◌, ◌≤◌, arith}
use Rattle.text.specs.Scan.{past, past-from}

pub drops-some : (p : ℕ → Bool) (s : List ℕ) (i e : ℕ) → e ≡ past p s (i + 2) → i ≤ e
drops-some p s i e h = omega (arith, past-from p s (i + 2))

pub ruleset dropping = (drops-some)
