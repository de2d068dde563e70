-- What is there before the first assertion is read: POLICY and the requesters in the index, the requesters marked, the two joined texts.
-- Assumes nothing.
use Rattle.std.specs.Prelude.{◌≡◌, List, [], ◌∷◌, ◌++◌, map, ℕ, ◌-◌, ◌*◌, ◌≤◌, length, take, replicate}
use Rattle.limits.specs.Limits.{most_asking, most_counted, most_joined}
use Rattle.text.specs.Join.{joined}
use Rattle.record.specs.Query.{Query}
use Rattle.record.specs.Encode.{string_bytes}
use Rattle.principal.specs.Principal.{Principal, policy}
use Rattle.compliance.specs.Theorems.Filling.{Filling, asking}
use Rattle.index.specs.Index.{enter_all, Holds}
use Rattle.expression.specs.Conditions.{top}
use Rattle.index.specs.declared.Index.{Index}
use Rattle.system.specs.Working.Sizes.{small}

-- POLICY and the requesters
abbrev pub start_names : Query → List Principal
start_names q = enter_all (policy ∷ []) q.requesters

pub record Started (s : List ℕ) (q : Query) (start : ℕ) (consts : List ℕ) (x : Index) (pool places direct : List ℕ) : Type 0 where
  pub holds : Holds pool places x.count x.end (start_names q)
  pub tight : x.end ≤ most_counted * x.count
  pub few : x.count ≤ most_asking
  pub marks : direct ≡ map (asking q.requesters) (start_names q) ++ replicate (small.places - x.count) 0
  pub filling : Filling (start_names q) [] [] [] [] (map (asking q.requesters) (start_names q)) [] q.requesters (top q.values)
  pub pool-long : length pool ≡ small.pool
  pub places-long : length places ≡ small.places
  pub begun : take start consts ≡ string_bytes (joined q.values) ++ string_bytes (joined q.requesters)
  pub start-low : start ≤ most_joined
  pub consts-long : length consts ≡ small.consts
  pub values-short : length (joined q.values) ≤ 65535
  pub requesters-short : length (joined q.requesters) ≤ 65535
