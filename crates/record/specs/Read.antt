-- Reading from left to right: what is read and the place behind it, or a refusal's number and place. Assumes nothing.
use Rattle.std.specs.Prelude.{ℕ}
use Rattle.record.specs.Query.{Query}

pub data Read (A : Type 0) : Type 0 where
  got : A → ℕ → Read A
  bad : ℕ → ℕ → Read A

-- the one, then the other from the place behind it
abbrev pub and_then : {A B : Type 0} → Read A → (A → ℕ → Read B) → Read B
and_then (got a p) k = k a p
and_then (bad n p) k = bad n p

-- a whole record: the query that it says, or a refusal
pub data Verdict : Type 0 where
  accepted : Query → Verdict
  refused : ℕ → ℕ → Verdict
