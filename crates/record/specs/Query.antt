-- What a record says. Assumes nothing.
use Rattle.std.specs.Prelude.{List, ℕ}

-- an action attribute: its name and its value
pub record Attribute : Type 0 where
  pub name : List ℕ
  pub value : List ℕ

-- an assertion as supplied: "a standing byte (0 unverified, 1 local, 2 verified credential)" and its text
pub record Supplied : Type 0 where
  pub standing : ℕ
  pub text : List ℕ

-- "compliance values", "requesters", "attributes", "assertions"
pub record Query : Type 0 where
  pub values : List (List ℕ)
  pub requesters : List (List ℕ)
  pub attributes : List Attribute
  pub assertions : List Supplied
