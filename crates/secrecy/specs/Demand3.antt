-- Demand 3 of the code. Assumes nothing.
use Rattle.std.specs.Prelude.{◌≡◌, List, ℕ, take}
use Rattle.record.specs.Query.{Query}
use Rattle.record.specs.Read.{accepted}
use Rattle.record.specs.Record.{read_record}
use Rattle.keynote.specs.Outcome.{needed}
use Rattle.keynote.specs.Secrets.{Dereferenced, AlikeWhere}
use Rattle.secrecy.specs.declared.Both.{Both}

-- Two accepted queries that are alike but for the values of attributes that no reached, kept assertion of the first dereferences in its Conditions and
-- no text otherwise well formed in Authorizer or Licensees: "Equal are rank, rounds, reached and all 3 + 3n bytes of the report". s and s' are the
-- records, page and leaf the pages after the calls.
abbrev pub Secret : List ℕ → List ℕ → Both → List ℕ → List ℕ → Type 0
Secret s s' r page leaf =
    (q q' : Query) → read_record s ≡ accepted q → read_record s' ≡ accepted q' → AlikeWhere (Dereferenced q) q q' → r.first.number ≡ 0 → r.second.number ≡ 0
    → (r.first ≡ r.second) × (take (needed q) page ≡ take (needed q) leaf)
