-- Larger tables that begin as the old ones hold the same. Assumes nothing.
use Rattle.std.specs.Prelude.{◌≡◌, List, ◌++◌, map, ℕ, ◌+◌, ◌-◌, ◌≤◌, take, drop, replicate}
use Rattle.std.proofs.Common.{sym, ap, ◌∙◌, length-append, length-drop, take_at, length-take-le}
use native.Mathlib.Omega.{arith}
use Rattle.std.proofs.Math.ListN.{length}
use Rattle.std.proofs.lemmas.List.{length-map, length-replicate}
use borrow.Author.Tests.{le-leb}
use Rattle.limits.specs.Limits.{most_joined}
use Rattle.text.specs.Copy.{put, copy_at}
use Rattle.record.specs.Query.{Query}
use Rattle.compliance.specs.System.{Assertion}
use Rattle.compliance.specs.Theorems.Filling.{asking}
use Rattle.compliance.specs.Working.Words.{drop-blank}
use Rattle.index.specs.Entry.{plain}
use Rattle.index.specs.Tree.{tree-front}
use Rattle.index.specs.Index.{Holds}
use Rattle.system.specs.Working.Each.{Store}
use Rattle.system.specs.Working.Sizes.{Size, small, middle, large}
use Rattle.system.specs.Working.Solving.{laid, larger}
use Rattle.system.specs.declared.note.Ends.{Ends}
use Rattle.keynote.specs.Working.Made.{Made}

module _ (m old : List ℕ) (fits : length old ≤ length m) where
  laid-front : laid m old ≡ old ++ drop (length old) m
  unfolding laid copy_at put
  laid-front = let z : 0 + length old ≡ length old = omega arith in rw (z, le-leb (length old) (length m) fits)

  laid-length : length (laid m old) ≡ length m
  laid-length = ap length laid-front ∙ omega (arith, length-append old (drop (length old) m), length-drop (length old) m, fits)

  laid-take : (n : ℕ) → length old ≡ n → take n (laid m old) ≡ old
  laid-take n e = ap (take n) laid-front ∙ take_at old (drop (length old) m) n e

-- a front of n entries laid into a table of k zeros
module _ (l : List ℕ) (n k : ℕ) (in-l : n ≤ length l) (in-k : n ≤ k) where
  front_long : length (take n l) ≡ n
  front_long = length-take-le n l in-l

  fits : length (take n l) ≤ length (replicate {A = ℕ} k 0)
  fits = omega (arith, front_long, in-k, length-replicate {A = ℕ} k 0)

  grown-length : length (laid (replicate k 0) (take n l)) ≡ k
  grown-length = laid-length (replicate k 0) (take n l) fits ∙ length-replicate {A = ℕ} k 0

  grown-front : take n (laid (replicate k 0) (take n l)) ≡ take n l
  grown-front = laid-take (replicate k 0) (take n l) fits n front_long

-- tables of one size fit into those of another, with the joined texts
pub record Within (size next : Size) : Type 0 where
  pub begins : most_joined ≤ size.consts
  pub consts : size.consts ≤ next.consts
  pub pool : size.pool ≤ next.pool
  pub places : size.places ≤ next.places

-- for any two such sizes: what tables of the first hold, those of the next hold too, laid out anew
module _ {size : Size} {room : ℕ} {q : Query} {start : ℕ} {direct : List ℕ} {l : List Assertion} {i : ℕ} {e : Ends} {x : Store} {a c d : List ℕ} (made : Made size room q start direct l i e x a c d)
    (next : Size) (within : Within size next) (low : start ≤ most_joined) where
  begins : start ≤ length x.consts
  begins = omega (arith, low, within.begins, made.consts-long)

  begin : start ≤ next.consts
  begin = omega (arith, low, within.begins, within.consts)

  short : e.index.end ≤ next.pool
  short = omega (arith, made.holds.in_pool, made.pool-long, within.pool)

  few : e.index.count ≤ next.places
  few = omega (arith, made.holds.in_table, made.places-long, within.places)

  abbrev after : Store
  after = larger next (take start x.consts) (take e.index.end x.pool) (take e.index.count x.places) x.code

  holds : Holds after.pool after.places e.index.count e.index.end made.names
  holds = record {
    bytes = grown-front x.pool e.index.end next.pool made.holds.in_pool short ∙ made.holds.bytes;
    entries = ap (map plain) (grown-front x.places e.index.count next.places made.holds.in_table few) ∙ made.holds.entries;
    tree = tree-front (grown-front x.places e.index.count next.places made.holds.in_table few) made.holds.tree;
    distinct = made.holds.distinct;
    counted = made.holds.counted;
    ends = made.holds.ends;
    in_pool = omega (arith, short, grown-length x.pool e.index.end next.pool made.holds.in_pool short);
    in_table = omega (arith, few, grown-length x.places e.index.count next.places made.holds.in_table few);
    near = made.holds.near;
  }

  abbrev marks : List ℕ
  marks = map (asking q.requesters) made.names

  marks-long : length marks ≡ e.index.count
  marks-long = length-map made.names (asking q.requesters) ∙ sym made.holds.counted

  marked : take e.index.count direct ≡ marks
  marked = ap (take e.index.count) made.stock.marks ∙ take_at marks (replicate (size.places - length made.names) 0) e.index.count marks-long

  marks-fit : length marks ≤ length (replicate {A = ℕ} next.places 0)
  marks-fit = omega (arith, marks-long, few, length-replicate {A = ℕ} next.places 0)

  again : laid (replicate next.places 0) (take e.index.count direct) ≡ marks ++ replicate (next.places - length made.names) 0
  again =
      let n : length marks ≡ length made.names = length-map made.names (asking q.requesters) in
      ap (laid (replicate next.places 0)) marked ∙ laid-front (replicate next.places 0) marks marks-fit
      ∙ ap (λ (m : List ℕ). marks ++ m) (drop-blank (length marks) next.places) ∙ ap (λ (k : ℕ). marks ++ replicate (next.places - k) 0) n

  pub made-larger : Made next room q start (laid (replicate next.places 0) (take e.index.count direct)) l i e after a c d
  made-larger = record {
    names = made.names;
    holds = holds;
    stock = record { filling = made.stock.filling; covers = made.stock.covers; marks = again };
    tight = made.tight;
    first = made.first;
    few = made.few;
    low = made.low;
    rows = made.rows;
    authors-long = made.authors-long;
    conds-long = made.conds-long;
    ends-long = made.ends-long;
    consts-long = grown-length x.consts start next.consts begins begin;
    pool-long = grown-length x.pool e.index.end next.pool made.holds.in_pool short;
    places-long = grown-length x.places e.index.count next.places made.holds.in_table few;
    code-long = made.code-long;
    begun = grown-front x.consts start next.consts begins begin ∙ made.begun;
  }

pub small-middle : Within small middle
small-middle = record { begins = omega arith; consts = omega arith; pool = omega arith; places = omega arith }

pub small-large : Within small large
small-large = record { begins = omega arith; consts = omega arith; pool = omega arith; places = omega arith }

pub middle-large : Within middle large
middle-large = record { begins = omega arith; consts = omega arith; pool = omega arith; places = omega arith }

-- and where it doesn't hold: middle tables don't fit into small ones
pub middle-not-small : Within middle small → ⊥
middle-not-small w = omega (arith, w.pool)
