-- The answer over tables of numbers, in the code's shape, and the ways to it. Assumes nothing.
use Rattle.std.specs.Prelude.{◌≡◌, Bool, false, eqb, ltb, get_or, take, replicate}
use Rattle.std.proofs.Common.{sym, ◌∙◌, arith}
use Rattle.std.proofs.Math.Path.{ap}
use mathlib.Core.List.{List}
use Prim.Native.Nat.{ℕ, zero, suc, ◌+◌, ◌-◌, ◌*◌, ◌≤◌, ◌<◌, zero-le}
use Rattle.std.proofs.Math.ListN.{length}
use Rattle.std.proofs.lemmas.List.{length-replicate}
use borrow.Author.Tests.{lt-ltb, le-ltb}
use Rattle.text.specs.Choice.{pick, split}
use Rattle.compliance.specs.Highest.{at_least}
use Rattle.limits.specs.Limits.{most_assertions, most_licensees, most_principals}
use Rattle.compliance.specs.Working.Reach.{marked, spread_from}
use Rattle.compliance.specs.Working.Rounds.{Settled, settled_at, changes_of, round_of, settle_from}
use Rattle.compliance.specs.Working.RoundWays.{settle-same}
use Rattle.compliance.specs.Working.Words.{flags_of, flags_in, spare_in, words_for, take-same, take-blank, blank-flags, blank-spare, parted-at, parted-count}
use Rattle.compliance.specs.declared.Solution.{Solution}

-- n numbers, all 0
abbrev pub blank : ℕ → List ℕ
blank n = replicate n 0

-- the flags of the reach, of n principals
unfoldable pub reach_of : List ℕ → List ℕ → List ℕ → ℕ → List ℕ
reach_of authors ends code n = spread_from authors ends code (length authors) (replicate (length authors) false) (marked 0 (blank n))

abbrev pub answer_of : ℕ → Settled → Solution
answer_of reached (settled_at rounds ranks) = record { rank = get_or ranks 0 0; rounds = rounds; reached = reached }

-- the answer, on a stack of `depth`
unfoldable pub solved_by : List ℕ → List ℕ → List ℕ → List ℕ → List ℕ → ℕ → ℕ → Solution
solved_by authors conds ends code direct top depth =
    answer_of (at_least 1 (reach_of authors ends code (length direct)))
    (settle_from authors conds ends code direct top depth (reach_of authors ends code (length direct)) (length direct)
    (at_least 1 (reach_of authors ends code (length direct))) 0 (blank (length direct)))

-- the answer, or all 0 where the tables are too large
unfoldable pub solution_of : List ℕ → List ℕ → List ℕ → List ℕ → List ℕ → ℕ → Solution
solution_of authors conds ends code direct top =
    pick (ltb most_principals (length direct)) (record { rank = 0; rounds = 0; reached = 0 })
    (pick (ltb most_assertions (length authors)) (record { rank = 0; rounds = 0; reached = 0 })
    (solved_by authors conds ends code direct top most_licensees))

-- ---- the ways

-- the tables lent: m flags of assertions, words for the reach of n principals, n numbers in the others, all 0
pub record Blank (m n : ℕ) (ranks next reach : List ℕ) (done : List Bool) : Type 0 where
  pub no_ranks : ranks ≡ blank n
  pub next_long : length next ≡ n
  pub no_reach : reach ≡ blank (length reach)
  pub reach_wide : n ≤ length reach * 64
  pub reach_few : length reach ≤ words_for most_principals
  pub none_done : done ≡ replicate m false

pub blank-words : (m n : ℕ) (ranks next reach : List ℕ) (done : List Bool) → Blank m n ranks next reach done → (found : List ℕ) → length found ≡ length reach → length found ≤ words_for most_principals
blank-words m n ranks next reach done b found e = omega (arith, b.reach_few, e)

pub blank-ranks : (m n : ℕ) (ranks next reach : List ℕ) (done : List Bool) → Blank m n ranks next reach done → ranks ≡ replicate (length next) 0
blank-ranks m n ranks next reach done b = b.no_ranks ∙ rw b.next_long

-- the first n numbers of a blank table of k
module _ (k n : ℕ) (h : n ≤ k) where
  part-long : n ≡ length (take n (blank k))
  part-long = rw (take-blank n k h) (sym (length-replicate n 0))

  pub part-blank : k ≤ most_principals → (w : ℕ) → w ≡ words_for k → (j m : ℕ) → m ≤ j → Blank m n (take n (blank k)) (take n (blank k)) (blank w) (take m (replicate j false))
  part-blank few w we j m i =
      let l : length (blank w) ≡ w = length-replicate {A = ℕ} w 0 in
      record {
        no_ranks = take-blank n k h;
        next_long = sym part-long;
        no_reach = ap blank (sym l);
        reach_wide = omega (arith, h, l, we);
        reach_few = omega (arith, few, l, we);
        none_done = take-same false m j i;
      }

module _ (authors conds ends code direct : List ℕ) (top : ℕ) where
  pub solve-wide : most_principals < length direct → record { rank = 0; rounds = 0; reached = 0 } ≡ solution_of authors conds ends code direct top
  unfolding solution_of
  solve-wide h = simp (lt-ltb most_principals (length direct) h)

  module _ (fits : length direct ≤ most_principals) where
    pub solve-long : most_assertions < length authors → record { rank = 0; rounds = 0; reached = 0 } ≡ solution_of authors conds ends code direct top
    unfolding solution_of
    solve-long h = simp (le-ltb most_principals (length direct) fits, lt-ltb most_assertions (length authors) h)

    pub solve-is : length authors ≤ most_assertions → (r : Solution) → r ≡ solved_by authors conds ends code direct top most_licensees
        → r ≡ solution_of authors conds ends code direct top
    unfolding solution_of
    solve-is h r e = simp (le-ltb most_principals (length direct) fits, le-ltb most_assertions (length authors) h) e

  -- the answer from what the calls leave
  pub solved-is : (depth : ℕ) (ranks next reach : List ℕ) (done : List Bool) → Blank (length authors) (length direct) ranks next reach done
      → (found : List ℕ) → flags_in (length direct) found ≡ spread_from authors ends code (length authors) done (marked 0 (flags_in (length direct) reach))
      → spare_in (length direct) found ≡ spare_in (length direct) reach
      → (k : ℕ) → k ≡ at_least 1 (flags_of found) → (n : ℕ) (z : List ℕ)
      → settled_at n z ≡ settle_from authors conds ends code direct top depth (flags_of found) (length next) k 0 ranks
      → (v : ℕ) → v ≡ get_or z 0 0 → record { rank = v; rounds = n; reached = k } ≡ solved_by authors conds ends code direct top depth
  unfolding solved_by reach_of
  solved-is depth ranks next reach done b found fe se k ke n z ne v ve =
      let flags : List ℕ = flags_in (length direct) found in
      let none : flags_in (length direct) reach ≡ blank (length direct) =
      ap (flags_in (length direct)) b.no_reach ∙ blank-flags (length direct) (length reach) b.reach_wide in
      let spare : spare_in (length direct) found ≡ blank (length reach * 64 - length direct) =
      se ∙ ap (spare_in (length direct)) b.no_reach ∙ blank-spare (length direct) (length reach) in
      let e : flags ≡ spread_from authors ends code (length authors) (replicate (length authors) false) (marked 0 (blank (length direct))) =
      fe ∙ rw (b.none_done, none) in
      let c : k ≡ at_least 1 flags = ke ∙ parted-count (length direct) found (length reach * 64 - length direct) spare in
      let f : settle_from authors conds ends code direct top depth (flags_of found) (length next) k 0 ranks
      ≡ settle_from authors conds ends code direct top depth flags (length direct) k 0 (blank (length direct)) =
      rw (b.next_long, b.no_ranks)
      (settle-same authors conds ends code direct top depth (flags_of found) flags (parted-at (length direct) found (length reach * 64 - length direct) spare) (length direct) k 0 (blank (length direct))) in
      rw (ve, ← e, ← c, ← f, ← ne)

-- ---- the rounds are at most the principals reached, whatever the tables hold

rounds_in : Settled → ℕ
rounds_in (settled_at n ranks) = n

settle-bound : (authors conds ends code direct : List ℕ) (top depth : ℕ) (reach : List ℕ) (n k m : ℕ) (ranks : List ℕ)
    → rounds_in (settle_from authors conds ends code direct top depth reach n k m ranks) ≤ m + k
unfolding settle_from rounds_in
settle-bound authors conds ends code direct top depth reach n zero m ranks = omega arith
settle-bound authors conds ends code direct top depth reach n (suc k) m ranks =
    let next = round_of authors conds ends code direct top depth reach n ranks in
    split (eqb (changes_of ranks next) 0)
    (λ e. rw e (omega arith))
    (λ e. rw e (omega (arith, settle-bound authors conds ends code direct top depth reach n k (suc m) next)))

answer-bound : (k : ℕ) (r : Settled) → rounds_in r ≤ k → (answer_of k r).rounds ≤ (answer_of k r).reached
unfolding rounds_in
answer-bound k (settled_at n ranks) h = h

bounded : (authors conds ends code direct : List ℕ) (top : ℕ) → (solution_of authors conds ends code direct top).rounds ≤ (solution_of authors conds ends code direct top).reached
unfolding solution_of solved_by
bounded authors conds ends code direct top =
    let found = reach_of authors ends code (length direct) in
    split (ltb most_principals (length direct))
    (λ e. rw e zero-le)
    (λ e. rw e (split (ltb most_assertions (length authors))
    (λ f. rw f zero-le)
    (λ f. rw f (answer-bound (at_least 1 found)
    (settle_from authors conds ends code direct top most_licensees found (length direct) (at_least 1 found) 0 (blank (length direct)))
    (let h = settle-bound authors conds ends code direct top most_licensees found (length direct) (at_least 1 found) 0 (blank (length direct)) in omega arith)))))

-- the last way again, with the bound
pub solve-within : (authors conds ends code direct : List ℕ) (top : ℕ) → length direct ≤ most_principals → length authors ≤ most_assertions
    → (r : Solution) → r ≡ solved_by authors conds ends code direct top most_licensees → r.rounds ≤ r.reached
solve-within authors conds ends code direct top h k r e = rw (solve-is authors conds ends code direct top h k r e) (bounded authors conds ends code direct top)
