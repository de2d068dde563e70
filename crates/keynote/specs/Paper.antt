-- What W-211 speaks of: queries that differ in their assertions only, and assertions outside the reach. Assumes nothing.
use Rattle.std.specs.Prelude.{◌≡◌, ℕ}
use Rattle.record.specs.Query.{Query, Supplied}
use Rattle.compliance.specs.Reach.{Reachable}
use Rattle.assertion.specs.Assertion.{Assertion}
use Rattle.assertion.specs.Read.{Read, kept, dropped}
use Rattle.keynote.specs.Answer.{reading, system}

-- two queries are equal but for their assertions
pub record EqualBut (q q' : Query) : Type 0 where
  pub values : q.values ≡ q'.values
  pub requesters : q.requesters ≡ q'.requesters
  pub attributes : q.attributes ≡ q'.attributes

-- an assertion as it is read is outside the reach of q: "set aside", or its "authorizer stays outside that reach"
pub data ReadOutside (q : Query) : Read → Type 0 where
  set-aside : (r p : ℕ) → ReadOutside q (dropped r p)
  unreached : (a : Assertion) → (Reachable (system q) a.authorizer → ⊥) → ReadOutside q (kept a)

abbrev pub Outside : Query → Supplied → Type 0
Outside q x = ReadOutside q (reading q x)
