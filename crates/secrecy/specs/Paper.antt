-- "More paper never lowers a class", of the code. Assumes nothing.
use Rattle.std.specs.Prelude.{◌≡◌, ℕ, ◌+◌, ◌*◌, ◌≤◌, get_or, take}
use Rattle.std.proofs.Math.Option.{some}
use mathlib.Core.List.{List, ◌∷◌, ◌++◌, Memᴰ as Mem, Permᴰ as Perm}
use Rattle.std.proofs.Math.ListN.{get_elem?}
use Rattle.text.specs.Counted.{pair_at}
use Rattle.record.specs.Query.{Query, Supplied}
use Rattle.record.specs.Read.{accepted}
use Rattle.record.specs.Record.{read_record}
use Rattle.keynote.specs.Outcome.{needed}
use Rattle.keynote.specs.Paper.{EqualBut, Outside}
use Rattle.keynote.specs.Theorems.More.{report_with}
use Rattle.secrecy.specs.declared.Both.{Both}

-- Of two accepted queries that are equal but for their assertions; page and leaf are the pages after the calls.
pub record Paper (q q' : Query) (r : Both) (page leaf : List ℕ) : Type 0 where
  -- "adding an assertion never lowers the rank"
  pub added : ((x : Supplied) → Mem x q.assertions → Mem x q'.assertions) → r.first.rank ≤ r.second.rank
  -- "reordering assertions changes no rank, rounds or reached, and permutes the report's entries"
  pub reordered : Perm q.assertions q'.assertions → r.first ≡ r.second
  pub permuted : (x : Supplied) (i j : ℕ) → get_elem? q.assertions i ≡ some x → get_elem? q'.assertions j ≡ some x
      → (get_or (take (needed q) page) (3 + 3 * i) 0 ≡ get_or (take (needed q') leaf) (3 + 3 * j) 0) × (pair_at (take (needed q) page) (3 + 3 * i + 1) ≡ pair_at (take (needed q') leaf) (3 + 3 * j + 1))
  -- "replacing an assertion outside the reach by any text that is set aside, or whose authorizer stays outside that reach, changes only its own report entry"
  pub replaced : (x y : Supplied) (front back : List Supplied) → q.assertions ≡ front ++ (x ∷ back) → q'.assertions ≡ front ++ (y ∷ back) → Outside q x → Outside q y
      → (r.first ≡ r.second) × ((take (needed q) page ≡ report_with q front x back) × (take (needed q') leaf ≡ report_with q front y back))

abbrev pub MorePaper : List ℕ → List ℕ → Both → List ℕ → List ℕ → Type 0
MorePaper s s' r page leaf =
    (q q' : Query) → read_record s ≡ accepted q → read_record s' ≡ accepted q' → EqualBut q q' → r.first.number ≡ 0 → r.second.number ≡ 0 → Paper q q' r page leaf
