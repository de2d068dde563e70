-- Working definitions: what became of an assertion noted, and the ways out of the functions that do it. Assumes nothing.
use Rattle.std.specs.Prelude.{List, [], ◌∷◌, ℕ, ◌+◌, ◌*◌, ◌/◌, ◌%◌, leb, ltb, length, set, Ok, Err}
use Rattle.text.specs.Choice.{pick}
use Rattle.text.specs.Copy.{put}
use Rattle.assertion.specs.Working.Reading.{Assessment}
use Rattle.system.specs.declared.note.Ends.{Ends}
use Rattle.syntax.specs.declared.fault.Fault.{Fault}
use Rattle.index.specs.declared.Index.{Index}
use Rattle.naming.specs.Working.Faults.{clear_at}

-- the entry of assertion i, where the page has room for it
unfoldable pub entry_into : List ℕ → ℕ → Fault → List ℕ
entry_into page i f =
    pick (ltb (length page) (3 * i + 6)) page (put page (3 + 3 * i) (f.reason % 256 ∷ f.place / 256 % 256 ∷ f.place % 256 ∷ []))

-- how many rows there are, and the rows: authorizers, ranks of Conditions, ends of programs
pub data Rowed : Type 0 where
  rowed : ℕ → List ℕ → List ℕ → List ℕ → Rowed

unfoldable pub row_into : List ℕ → List ℕ → List ℕ → ℕ → ℕ → ℕ → ℕ → Rowed
row_into a c d k author rank size =
    pick (leb (length a) k) (rowed k a c d)
    (pick (leb (length c) k) (rowed k a c d)
    (pick (leb (length d) k) (rowed k a c d) (rowed (k + 1) (set a k (author % 65536)) (set c k rank) (set d k (size % 65536)))))

-- the ends, the rows and the page
pub data Noted : Type 0 where
  noted : Ends → List ℕ → List ℕ → List ℕ → List ℕ → Noted

abbrev pub ends_at : Index → ℕ → ℕ → Ends
ends_at index size kept = record { index = index; size = size; kept = kept }

abbrev pub on_rowed : Index → ℕ → List ℕ → Rowed → Noted
on_rowed index size page (rowed k a c d) = noted (ends_at index size k) a c d page

unfoldable pub note_in : List ℕ → List ℕ → List ℕ → List ℕ → ℕ → Ends → Assessment → Noted
note_in a c d page i e (Err f) = noted e a c d (entry_into page i f)
note_in a c d page i e (Ok r) = on_rowed r.index r.size (entry_into page i clear_at) (row_into a c d e.kept r.author r.rank r.size)

-- the report's first three bytes, where the page has room for them
unfoldable pub header_into : List ℕ → ℕ → List ℕ
header_into page n = pick (ltb (length page) 3) page (put page 0 (1 ∷ 3 * (n % 65536) / 256 % 256 ∷ 3 * (n % 65536) % 256 ∷ []))
