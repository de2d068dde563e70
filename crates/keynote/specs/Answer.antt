-- The answer to a query: what is read of its assertions, and the system that the kept ones make. Assumes nothing.
use Rattle.std.specs.Prelude.{List, [], ◌∷◌, map, ℕ}
use Rattle.record.specs.Query.{Query, Supplied}
use Rattle.principal.specs.Principal.{policy}
use Rattle.compliance.specs.System.{Assertion, System}
use Rattle.compliance.specs.Rounds.{rank, rounds, reached}
use Rattle.expression.specs.Names.{environment}
use Rattle.expression.specs.Conditions.{top, conditions}
use Rattle.assertion.specs.Assertion.{Assertion as Claim, Conditions, absent, stated}
use Rattle.assertion.specs.Read.{Read, kept, dropped}
use Rattle.assertion.specs.Form.{read_assertion}
use Rattle.assertion.specs.Resolved.{resolved}

-- the rank of a Conditions field: "A missing field is top, an empty one 0"
unfoldable pub worth : Query → Conditions → ℕ
worth q absent = top q.values
worth q (stated cs p) = conditions (environment q cs) p

-- a kept assertion with its Conditions' rank
unfoldable pub ranked : Query → Claim → Assertion
ranked q a = record { authorizer = a.authorizer; conditions = worth q a.conditions; field = a.licensees }

-- an assertion as supplied is read under its standing, and what it names is found in the query
unfoldable pub reading : Query → Supplied → Read
reading q a = resolved q a.standing (read_assertion a.standing a.text)

-- what is read of each assertion, in order
unfoldable pub readings : Query → List Read
readings q = map (reading q) q.assertions

-- the "kept assertions"
unfoldable pub kept_of : List Read → List Claim
kept_of [] = []
kept_of (kept a ∷ l) = a ∷ kept_of l
kept_of (dropped r p ∷ l) = kept_of l

-- the kept assertions, the requesters, and the highest rank
unfoldable pub system : Query → System
system q = record { assertions = map (ranked q) (kept_of (readings q)); requesters = q.requesters; top = top q.values }

-- "rank (0 is weakest), rounds and reached": POLICY's rank is the query's class
unfoldable pub class_given : Query → ℕ
class_given q = rank (system q) policy

unfoldable pub rounds_of : Query → ℕ
rounds_of q = rounds (system q)

unfoldable pub reached_of : Query → ℕ
reached_of q = reached (system q)
