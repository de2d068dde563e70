-- What the library's reader gives for a record, and what it leaves in the table that is lent. Assumes nothing.
use Rattle.std.specs.Prelude.{◌≡◌, List, Result, Ok, Err, ℕ, ◌+◌, length}
use Rattle.std.proofs.Common.{ap}
use Rattle.text.specs.Copy.{put}
use Rattle.record.specs.Query.{Query}
use Rattle.record.specs.Read.{Verdict, accepted, refused}
use Rattle.record.specs.Record.{read_record}
use Rattle.record.specs.Places.{places}
use Rattle.record.specs.Refusal.{Refused}
use Rattle.record.specs.declared.Ends.{Ends}
use Rattle.record.specs.declared.Refusal.{Refusal}

-- where each group's entries end in the table, or a refusal
abbrev pub Reading : Type 0
Reading = Result Ends Refusal

abbrev pub Accepted : ℕ → ℕ → ℕ → ℕ → Reading
Accepted v r a c = Ok (record { values = v; requesters = r; attributes = a; assertions = c })

-- equal readings end at one entry
pub accepted-last : (v r a c w s b d : ℕ) → Accepted v r a c ≡ Accepted w s b d → c ≡ d
accepted-last v r a c w s b d e =
    let z : ◌≡◌ {A = Ends} (record { values = v; requesters = r; attributes = a; assertions = c }) (record { values = w; requesters = s; attributes = b; assertions = d }) = cc in
    ap (λ (x : Ends). x.assertions) z

-- a reading and the table after it
pub data Told : Type 0 where
  told : Reading → List ℕ → Told

-- an accepted query's reading: where each group's entries end in the table
unfoldable pub group_ends : Query → Reading
group_ends q =
    Accepted (length q.values) (length q.values + length q.requesters)
    (length q.values + length q.requesters + length q.attributes)
    (length q.values + length q.requesters + length q.attributes + length q.assertions)

-- the table's first entries are the places of all items, the others as they were; a refusal changes nothing
unfoldable pub leaves : Verdict → List ℕ → Told
leaves (accepted q) t = told (group_ends q) (put t 0 (places q))
leaves (refused n p) t = told (Refused n p) t

unfoldable pub read_into : List ℕ → List ℕ → Told
read_into s t = leaves (read_record s) t

-- the number and the place of each case, as in the table of refusals: 0 and 0 when accepted
unfoldable pub tabled : Reading → ℕ × ℕ
tabled (Ok e) = (0, 0)
tabled (Err r) = (r.number, r.at)

unfoldable pub tabled_verdict : Verdict → ℕ × ℕ
tabled_verdict (accepted q) = (0, 0)
tabled_verdict (refused n p) = (n, p)
