-- The outcome of a record, and the page that is lent for the report after it. Assumes nothing.
use Rattle.std.specs.Prelude.{List, ◌++◌, ℕ, ltb, length, drop}
use Rattle.text.specs.Choice.{pick}
use Rattle.record.specs.Query.{Query}
use Rattle.record.specs.Read.{Verdict, accepted, refused}
use Rattle.record.specs.Record.{read_record}
use Rattle.keynote.specs.Answer.{readings, class_given, rounds_of, reached_of}
use Rattle.keynote.specs.Report.{report, report_size}
use Rattle.keynote.specs.declared.Outcome.{Outcome}

-- "A refusal gives rank, rounds and reached 0"
unfoldable pub refused_with : ℕ → ℕ → Outcome
refused_with n p = record { number = n; place = p; rank = 0; rounds = 0; reached = 0 }

-- "0 | answered | 0"
unfoldable pub answer : Query → Outcome
answer q = record { number = 0; place = 0; rank = class_given q; rounds = rounds_of q; reached = reached_of q }

-- how many bytes a query's report needs
unfoldable pub needed : Query → ℕ
needed q = report_size (length q.assertions)

-- "9 | report or working room too small | 0", "9 last"
unfoldable pub judged : Verdict → ℕ → Outcome
judged (accepted q) room = pick (ltb room (needed q)) (refused_with 9 0) (answer q)
judged (refused n p) room = refused_with n p

-- what a record gives, with a page of so many bytes
unfoldable pub outcome : List ℕ → ℕ → Outcome
outcome s room = judged (read_record s) room

-- "Report, written only when answered"; "bytes beyond keep their values"; a refusal "writes nothing"
unfoldable pub written : Verdict → List ℕ → List ℕ
written (accepted q) page = pick (ltb (length page) (needed q)) page (report (readings q) ++ drop (needed q) page)
written (refused n p) page = page

-- the page after it
unfoldable pub page_after : List ℕ → List ℕ → List ℕ
page_after s page = written (read_record s) page
