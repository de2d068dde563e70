-- The items of an accepted query lie in its record at their places. Assumes nothing.
use Rattle.std.specs.Prelude.{◌≡◌, List, ℕ}
use Rattle.record.specs.Query.{Query}
use Rattle.record.specs.Read.{accepted}
use Rattle.record.specs.Record.{read_record}
use Rattle.record.specs.Lies.{Lies}
use Rattle.record.proofs.Working.Tables.{tables-lie}

pub read-lies : (s : List ℕ) (q : Query) → read_record s ≡ accepted q → Lies s q
read-lies s q e = tables-lie s q e
