-- Working definitions: a query solved by the tables. Assumes nothing.
use Rattle.std.specs.Prelude.{◌≡◌, Bool, ℕ, ◌-◌, ◌%◌, ◌<◌, ◌≤◌, ltb, length, take, drop, replicate}
use Rattle.std.proofs.Math.Path.{sym, ap}
use Rattle.std.proofs.Common.{◌∙◌}
use mathlib.Core.List.{List, [], ◌∷◌, map}
use Rattle.std.proofs.lemmas.List.{length-replicate}
use borrow.Author.Tests.{lt-ltb, le-ltb}
use Rattle.limits.specs.Limits.{most_assertions, most_programs}
use Rattle.text.specs.Choice.{pick}
use Rattle.text.specs.Copy.{Copied, copied, copy_at}
use Rattle.text.specs.Counted.{counted}
use Rattle.text.specs.Join.{joined}
use Rattle.compliance.specs.Working.Solve.{solution_of}
use Rattle.compliance.specs.declared.Solution.{Solution}
use Rattle.constants.specs.Constants.{Written, written, begun_into}
use Rattle.system.specs.Working.Asking.{Asked, asked, all_from, Begun, begun, begin_in}
use Rattle.system.specs.Working.Noting.{ends_at, header_into}
use Rattle.system.specs.Working.Each.{Fixed, fixed, Store, store, each_by, Went, went_by, each_from}
use Rattle.system.specs.Working.Sizes.{Size, small, middle, large, larger_ones, some_rows, some_code, long_record, middle_most}
use Rattle.index.specs.declared.Index.{Index}
use Rattle.system.specs.declared.note.Ends.{Ends}

-- the solution and the page
pub data Solved : Type 0 where
  solved_by : Solution → List ℕ → Solved

-- the highest rank of the values at those places
abbrev pub top_of : List ℕ → ℕ
top_of values = (length values - 1) % 256

-- the tables' fronts that are in use
unfoldable pub rows_give : List ℕ → List ℕ → List ℕ → List ℕ → List ℕ → Ends → ℕ → Solution
rows_give a c d code direct e top = solution_of (take e.kept a) (take e.kept c) (take e.kept d) (take e.size code) (take e.index.count direct) top

-- a table with another's entries in front
abbrev pub laid_by : Copied → List ℕ
laid_by (copied b m) = m

unfoldable pub laid : List ℕ → List ℕ → List ℕ
laid m old = laid_by (copy_at m 0 old)

-- larger tables that begin as the old ones
abbrev pub larger : Size → List ℕ → List ℕ → List ℕ → List ℕ → Store
larger size consts pool places code = store (laid (replicate size.consts 0) consts) (laid (replicate size.pool 0) pool) (laid (replicate size.places 0) places) code

-- what was read is solved, or the rest is read into tables of the next size
unfoldable pub on_stretch : List Size → Fixed → List ℕ → List ℕ → Went → Solved
on_stretch [] f texts direct (went_by i (each_by e x a c d page)) = solved_by (rows_give a c d x.code direct e f.top) page
on_stretch (next ∷ sizes) f texts direct (went_by i (each_by e x a c d page)) =
    pick (ltb i (length texts))
    (on_stretch sizes f texts (laid (replicate next.places 0) (take e.index.count direct))
    (each_from f (drop i texts) i (each_by e (larger next (take f.start x.consts) (take e.index.end x.pool) (take e.index.count x.places) x.code) a c d page)))
    (solved_by (rows_give a c d x.code direct e f.top) page)

-- the assertions from i on read into tables of a size, and what is left into those of the next
unfoldable pub grown_in : Size → List Size → Fixed → List ℕ → List ℕ → List ℕ → List ℕ → List ℕ → List ℕ → List ℕ → List ℕ → List ℕ → List ℕ → ℕ → Ends → Solved
grown_in size sizes f texts consts pool places direct code a c d page i e =
    on_stretch sizes f texts (laid (replicate size.places 0) direct) (each_from f (drop i texts) i (each_by e (larger size consts pool places code) a c d page))

unfoldable pub filled_in : List ℕ → List ℕ → List ℕ → List ℕ → ℕ → List ℕ → List ℕ → List ℕ → List ℕ → Index → List ℕ → Solved
filled_in s values names texts start consts pool places direct x page =
    on_stretch larger_ones (fixed s values names (top_of values) start) texts direct
    (each_from (fixed s values names (top_of values) start) texts 0
    (each_by (ends_at x 0 0) (store consts pool places (replicate some_code 0)) (replicate some_rows 0) (replicate some_rows 0) (replicate some_rows 0) (header_into page (length texts))))

-- all of them read into middle tables, or into large ones where those have no room for an assertion more
unfoldable pub filled_long : List ℕ → List ℕ → List ℕ → List ℕ → ℕ → List ℕ → List ℕ → List ℕ → List ℕ → Index → List ℕ → Solved
filled_long s values names texts start consts pool places direct x page =
    pick (ltb middle_most x.end)
    (grown_in large [] (fixed s values names (top_of values) start) texts (take start consts) (take x.end pool) (take x.count places) (take x.count direct) (replicate most_programs 0)
    (replicate most_assertions 0) (replicate most_assertions 0) (replicate most_assertions 0) (header_into page (length texts)) 0 (ends_at x 0 0))
    (grown_in middle (large ∷ []) (fixed s values names (top_of values) start) texts (take start consts) (take x.end pool) (take x.count places) (take x.count direct) (replicate most_programs 0)
    (replicate most_assertions 0) (replicate most_assertions 0) (replicate most_assertions 0) (header_into page (length texts)) 0 (ends_at x 0 0))

-- small tables first, but for a long record, or one with many assertions
abbrev pub on_asked : List ℕ → List ℕ → List ℕ → List ℕ → ℕ → List ℕ → List ℕ → Asked → Solved
on_asked s values names texts start consts page (asked x pool places direct) =
    pick (ltb long_record (length s)) (filled_long s values names texts start consts pool places direct x page)
    (pick (ltb some_rows (length texts)) (filled_long s values names texts start consts pool places direct x page) (filled_in s values names texts start consts pool places direct x page))

abbrev pub on_begun : List ℕ → List ℕ → List ℕ → List ℕ → List ℕ → ℕ → List ℕ → List ℕ → Begun → Solved
on_begun s values requesters names texts start consts page (begun x pool places) =
    on_asked s values names texts start consts page (all_from s requesters (asked x pool places (replicate small.places 0)))

abbrev pub on_written : List ℕ → List ℕ → List ℕ → List ℕ → List ℕ → List ℕ → Written → Solved
on_written s values requesters names texts page (written start consts) =
    on_begun s values requesters names texts start consts page (begin_in (replicate small.pool 0) (replicate small.places 0))

unfoldable pub solved_in : List ℕ → List ℕ → List ℕ → List ℕ → List ℕ → List ℕ → Solved
solved_in s values requesters names texts page =
    on_written s values requesters names texts page
    (begun_into (replicate small.consts 0) (joined (map (counted s) values)) (joined (map (counted s) requesters)))

-- `top_of`
pub top-none : (n : ℕ) → n ≡ 0 → 0 ≡ (n - 1) % 256
top-none n h = rw h

-- `solve_rows`
pub rows_are : (a c d code direct : List ℕ) (e : Ends) (top : ℕ) (a' c' d' code' direct' : List ℕ)
    → a' ≡ take e.kept a → c' ≡ take e.kept c → d' ≡ take e.kept d → code' ≡ take e.size code → direct' ≡ take e.index.count direct
    → (r : Solution) → r ≡ solution_of a' c' d' code' direct' top → r ≡ rows_give a c d code direct e top
unfolding rows_give
rows_are a c d code direct e top a' c' d' code' direct' ae ce de ke re r rr = rw (rr, ae, ce, de, ke, re)

pub laid-is : (m old n : List ℕ) (b : Bool) → copied b n ≡ copy_at m 0 old → n ≡ laid m old
unfolding laid
laid-is m old n b e = rw (← e)

-- how long a table of zeros is, and another that is as long
pub zeros-long : (n : ℕ) → n ≡ length (replicate {A = ℕ} n 0)
zeros-long n = sym (length-replicate {A = ℕ} n 0)

pub kept-long : (n k : ℕ) → k ≡ length (replicate {A = ℕ} n 0) → n ≡ k
kept-long n k e = zeros-long n ∙ sym e

-- `grown` and `grown_large`
module _ (size : Size) (f : Fixed) (texts consts pool places direct code a c d page : List ℕ) (i : ℕ) (e : Ends) (consts' pool' places' direct' : List ℕ)
    (ce : consts' ≡ laid (replicate size.consts 0) consts) (pe : pool' ≡ laid (replicate size.pool 0) pool)
    (le : places' ≡ laid (replicate size.places 0) places) (de : direct' ≡ laid (replicate size.places 0) direct)
    (j : ℕ) (u : Ends) (y : Store) (a' c' d' page' : List ℕ)
    (we : went_by j (each_by u y a' c' d' page') ≡ each_from f (drop i texts) i (each_by e (store consts' pool' places' code) a c d page)) where
  grown : (sizes : List Size) → on_stretch sizes f texts direct' (went_by j (each_by u y a' c' d' page')) ≡ grown_in size sizes f texts consts pool places direct code a c d page i e
  unfolding grown_in
  grown sizes = rw (← ce, ← pe, ← le, ← de, ← we)

  pub grown-last : (r : Solution) → r ≡ rows_give a' c' d' y.code direct' u f.top → solved_by r page' ≡ grown_in size [] f texts consts pool places direct code a c d page i e
  unfolding on_stretch
  grown-last r re = ap (λ (z : Solution). solved_by z page') re ∙ grown []

  module _ (next : Size) (sizes : List Size) where
    pub grown-all : length texts ≤ j → (r : Solution) → r ≡ rows_give a' c' d' y.code direct' u f.top
        → solved_by r page' ≡ grown_in size (next ∷ sizes) f texts consts pool places direct code a c d page i e
    unfolding on_stretch
    grown-all h r re =
        let z : on_stretch (next ∷ sizes) f texts direct' (went_by j (each_by u y a' c' d' page')) ≡ solved_by (rows_give a' c' d' y.code direct' u f.top) page' = rw (le-ltb _ _ h) in
        ap (λ (w : Solution). solved_by w page') re ∙ sym z ∙ grown (next ∷ sizes)

    pub grown-rest : j < length texts → (old-consts old-pool old-places old-direct : List ℕ)
        → old-consts ≡ take f.start y.consts → old-pool ≡ take u.index.end y.pool → old-places ≡ take u.index.count y.places → old-direct ≡ take u.index.count direct'
        → (r : Solved) → r ≡ grown_in next sizes f texts old-consts old-pool old-places old-direct y.code a' c' d' page' j u
        → r ≡ grown_in size (next ∷ sizes) f texts consts pool places direct code a c d page i e
    unfolding on_stretch grown_in
    grown-rest h old-consts old-pool old-places old-direct oc op ol od r re =
        let z : on_stretch (next ∷ sizes) f texts direct' (went_by j (each_by u y a' c' d' page')) ≡ r = rw (lt-ltb _ _ h, ← oc, ← op, ← ol, ← od) (sym re) in
        sym z ∙ grown (next ∷ sizes)

-- `fill`
module _ (s values names texts : List ℕ) (start : ℕ) (consts pool places direct : List ℕ) (x : Index) (page : List ℕ)
    (top : ℕ) (te : top ≡ (length values - 1) % 256) (head : List ℕ) (he : head ≡ header_into page (length texts))
    (i : ℕ) (e : Ends) (y : Store) (a c d out : List ℕ)
    (ee : went_by i (each_by e y a c d out)
    ≡ each_from (fixed s values names top start) (drop 0 texts) 0
    (each_by (ends_at x 0 0) (store consts pool places (replicate some_code 0)) (replicate some_rows 0) (replicate some_rows 0) (replicate some_rows 0) head)) where
  went : went_by i (each_by e y a c d out)
      ≡ each_from (fixed s values names (top_of values) start) texts 0
      (each_by (ends_at x 0 0) (store consts pool places (replicate some_code 0)) (replicate some_rows 0) (replicate some_rows 0) (replicate some_rows 0) (header_into page (length texts)))
  went = ee ∙ rw (te, he)

  pub fill-all : length texts ≤ i → (r : Solution) → r ≡ rows_give a c d y.code direct e top → solved_by r out ≡ filled_in s values names texts start consts pool places direct x page
  unfolding filled_in on_stretch
  fill-all h r re = rw (re, te, ← went, le-ltb _ _ h)

  pub fill-rest : i < length texts → (old-consts old-pool old-places old-direct : List ℕ)
      → old-consts ≡ take start y.consts → old-pool ≡ take e.index.end y.pool → old-places ≡ take e.index.count y.places → old-direct ≡ take e.index.count direct
      → (r : Solution) (page' : List ℕ)
      → solved_by r page' ≡ grown_in middle (large ∷ []) (fixed s values names top start) texts old-consts old-pool old-places old-direct y.code a c d out i e
      → solved_by r page' ≡ filled_in s values names texts start consts pool places direct x page
  unfolding filled_in on_stretch grown_in
  fill-rest h old-consts old-pool old-places old-direct ce pe le de r page' re = re ∙ rw (← went, lt-ltb _ _ h, te, ce, pe, le, de)

-- `fill_long`
module _ (s values names texts : List ℕ) (start : ℕ) (consts pool places direct : List ℕ) (x : Index) (page : List ℕ)
    (top : ℕ) (te : top ≡ (length values - 1) % 256) (head : List ℕ) (he : head ≡ header_into page (length texts))
    (old-consts old-pool old-places old-direct : List ℕ)
    (ce : old-consts ≡ take start consts) (pe : old-pool ≡ take x.end pool) (le : old-places ≡ take x.count places) (de : old-direct ≡ take x.count direct) (r : Solved) where
  pub fill-large : middle_most < x.end
      → r ≡ grown_in large [] (fixed s values names top start) texts old-consts old-pool old-places old-direct (replicate most_programs 0)
      (replicate most_assertions 0) (replicate most_assertions 0) (replicate most_assertions 0) head 0 (ends_at x 0 0)
      → r ≡ filled_long s values names texts start consts pool places direct x page
  unfolding filled_long
  fill-large h re = re ∙ rw (te, he, ce, pe, le, de, lt-ltb middle_most x.end h)

  pub fill-middle : x.end ≤ middle_most
      → r ≡ grown_in middle (large ∷ []) (fixed s values names top start) texts old-consts old-pool old-places old-direct (replicate most_programs 0)
      (replicate most_assertions 0) (replicate most_assertions 0) (replicate most_assertions 0) head 0 (ends_at x 0 0)
      → r ≡ filled_long s values names texts start consts pool places direct x page
  unfolding filled_long
  fill-middle h re = re ∙ rw (te, he, ce, pe, le, de, le-ltb middle_most x.end h)

-- `solved`
module _ (s values requesters names texts page : List ℕ) (start : ℕ) (consts : List ℕ)
    (we : written start consts ≡ begun_into (replicate small.consts 0) (joined (map (counted s) values)) (joined (map (counted s) requesters)))
    (x : Index) (pool places : List ℕ) (be : begun x pool places ≡ begin_in (replicate small.pool 0) (replicate small.places 0))
    (y : Index) (pool' places' direct : List ℕ) (ae : asked y pool' places' direct ≡ all_from s requesters (asked x pool places (replicate small.places 0)))
    (r : Solved) where
  pub solve-long : long_record < length s → r ≡ filled_long s values names texts start consts pool' places' direct y page → r ≡ solved_in s values requesters names texts page
  unfolding solved_in
  solve-long h re = re ∙ rw (← we, ← be, ← ae, lt-ltb long_record (length s) h)

  pub solve-many : length s ≤ long_record → some_rows < length texts → r ≡ filled_long s values names texts start consts pool' places' direct y page
      → r ≡ solved_in s values requesters names texts page
  unfolding solved_in
  solve-many h k re = re ∙ rw (← we, ← be, ← ae, le-ltb long_record (length s) h, lt-ltb some_rows (length texts) k)

  pub solve-is : length s ≤ long_record → length texts ≤ some_rows → r ≡ filled_in s values names texts start consts pool' places' direct y page → r ≡ solved_in s values requesters names texts page
  unfolding solved_in
  solve-is h k re = re ∙ rw (← we, ← be, ← ae, le-ltb long_record (length s) h, le-ltb some_rows (length texts) k)
