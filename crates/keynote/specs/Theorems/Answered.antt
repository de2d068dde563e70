-- What a record gives: one that is refused, one whose page is too small, one that is answered. Assumes nothing.
use Rattle.std.specs.Prelude.{◌≡◌, List, ◌++◌, ℕ, ◌≤◌, ◌<◌, length, take, drop}
use Rattle.std.proofs.Common.{sym, ap, ◌∙◌}
use Rattle.std.proofs.Math.Seq.{take-append_seam}
use borrow.Author.Tests.{le-ltb, lt-ltb}
use Rattle.record.specs.Query.{Query}
use Rattle.record.specs.Read.{accepted, refused}
use Rattle.record.specs.Record.{read_record}
use Rattle.keynote.specs.Answer.{readings}
use Rattle.keynote.specs.Report.{report}
use Rattle.keynote.specs.Outcome.{refused_with, answer, needed, judged, outcome, written, page_after}
use Rattle.keynote.specs.Theorems.Report.{report-needed}

-- a refused record: its number and place, and an unchanged page
module _ (s : List ℕ) (n p : ℕ) (is : read_record s ≡ refused n p) where
  pub outcome-refused : (room : ℕ) → outcome s room ≡ refused_with n p
  unfolding outcome judged
  outcome-refused room = rw is

  pub page-refused : (page : List ℕ) → page_after s page ≡ page
  unfolding page_after written
  page-refused page = rw is

module _ (s : List ℕ) (q : Query) (is : read_record s ≡ accepted q) where
  -- an accepted record, and a page that is too small
  pub outcome-small : (room : ℕ) → room < needed q → outcome s room ≡ refused_with 9 0
  unfolding outcome judged
  outcome-small room h = rw (is, lt-ltb room (needed q) h)

  pub page-small : (page : List ℕ) → length page < needed q → page_after s page ≡ page
  unfolding page_after written
  page-small page h = rw (is, lt-ltb (length page) (needed q) h)

  -- an accepted record, and a page that is large enough
  pub outcome-answered : (room : ℕ) → needed q ≤ room → outcome s room ≡ answer q
  unfolding outcome judged
  outcome-answered room h = rw (is, le-ltb room (needed q) h)

  pub page-answered : (page : List ℕ) → needed q ≤ length page → page_after s page ≡ report (readings q) ++ drop (needed q) page
  unfolding page_after written
  page-answered page h = rw (is, le-ltb (length page) (needed q) h)

  -- "all 3 + 3n bytes of the report"
  pub report-written : (page : List ℕ) → needed q ≤ length page → take (needed q) (page_after s page) ≡ report (readings q)
  report-written page h =
      ap (λ (x : List ℕ). take (needed q) x) (page-answered page h)
      ∙ ap (λ (n : ℕ). take n (report (readings q) ++ drop (needed q) page)) (sym (report-needed q))
      ∙ take-append_seam (report (readings q)) (drop (needed q) page)
