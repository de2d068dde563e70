-- The query record: for every list of bytes the query that it says, or a refusal's number and place. Assumes nothing.
use Rattle.std.specs.Prelude.{List, ℕ, eqb, ltb, length, get_or}
use Rattle.text.specs.Choice.{pick}
use Rattle.limits.specs.Limits.{most_record, least_values, most_values, least_requesters, most_requesters, least_attributes, most_attributes, least_assertions, most_assertions}
use Rattle.record.specs.Query.{Query}
use Rattle.record.specs.Read.{Read, got, bad, and_then, Verdict, accepted, refused}
use Rattle.record.specs.Item.{value_at, requester_at, attribute_at, assertion_at, group_at}

-- the four groups in order
unfoldable pub query_at : List ℕ → ℕ → Read Query
query_at s at =
    and_then (group_at s least_values most_values (value_at s) at) (λ v p.
    and_then (group_at s least_requesters most_requesters (requester_at s) p) (λ r q.
    and_then (group_at s least_attributes most_attributes (attribute_at s) q) (λ a t.
    and_then (group_at s least_assertions most_assertions (assertion_at s) t) (λ c u.
    got (record { values = v; requesters = r; attributes = a; assertions = c }) u))))

-- "The last item ends the record": 3 at "the first byte left"
abbrev pub ended : List ℕ → Read Query → Verdict
ended s (got q p) = pick (ltb p (length s)) (refused 3 p) (accepted q)
ended s (bad n p) = refused n p

-- "Order: 1, 2, then the record from left to right"
unfoldable pub read_record : List ℕ → Verdict
read_record s =
    pick (ltb most_record (length s)) (refused 1 0)
    (pick (eqb (length s) 0) (refused 2 0)
    (pick (eqb (get_or s 0 0) 1) (ended s (query_at s 1)) (refused 2 0)))
