-- A round over tables of numbers, and rounds until one changes nothing, in the code's shape. Assumes nothing.
use Rattle.std.specs.Prelude.{◌≡◌, Bool, List, [], ◌∷◌, ◌++◌, ℕ, zero, suc, ◌+◌, min, max, eqb, length, get_or, set}
use Rattle.text.specs.Choice.{pick}
use Rattle.compliance.specs.Working.Machine.{worth}
use Rattle.compliance.specs.Tables.{program_of}

-- the rank of assertion j
unfoldable pub granted_of : List ℕ → List ℕ → List ℕ → ℕ → ℕ → List ℕ → ℕ → ℕ
granted_of conds ends code top depth ranks j = min (get_or conds j 0) (worth ranks top depth (program_of ends code j))

-- the rank at i raised to v; past the end there is none
unfoldable pub raised : List ℕ → ℕ → ℕ → List ℕ
raised next i v = set next i (max (get_or next i 0) v)

-- the direct authorization of the principal i, where it is reached
unfoldable pub direct_at : List ℕ → List ℕ → ℕ → ℕ → ℕ
direct_at direct reach top i = pick (eqb (get_or reach i 0) 1) (pick (eqb (get_or direct i 0) 1) top 0) 0

-- that of the first n
unfoldable pub direct_table : List ℕ → List ℕ → ℕ → ℕ → List ℕ
direct_table direct reach top zero = []
direct_table direct reach top (suc n) = direct_table direct reach top n ++ (direct_at direct reach top n ∷ [])

-- in how many places two tables differ
unfoldable pub changes_of : List ℕ → List ℕ → ℕ
changes_of [] ys = 0
changes_of (x ∷ xs) [] = 0
changes_of (x ∷ xs) (y ∷ ys) = pick (eqb x y) 0 1 + changes_of xs ys

-- the ranks `old` have become `new`, and whether none of them changed
pub record Advanced (still : Bool) (now old new : List ℕ) : Type 0 where
  pub told : still ≡ eqb (changes_of old new) 0
  pub ranks : now ≡ new

-- a number of rounds, and the ranks after them
pub data Settled : Type 0 where
  settled_at : ℕ → List ℕ → Settled

module _ (authors conds ends code : List ℕ) where
  -- the rank of the authorizer of assertion j raised, if it is reached
  unfoldable pub relaxed_at : ℕ → ℕ → List ℕ → List ℕ → ℕ → List ℕ → List ℕ
  relaxed_at top depth reach ranks j next =
      pick (eqb (get_or reach (get_or authors j 0) 0) 1) (raised next (get_or authors j 0) (granted_of conds ends code top depth ranks j)) next

  -- those of k assertions from j on
  unfoldable pub relax_from : ℕ → ℕ → List ℕ → List ℕ → ℕ → ℕ → List ℕ → List ℕ
  relax_from top depth reach ranks zero j next = next
  relax_from top depth reach ranks (suc k) j next = relax_from top depth reach ranks k (suc j) (relaxed_at top depth reach ranks j next)

  -- the round after `ranks`, of n principals
  unfoldable pub round_of : List ℕ → ℕ → ℕ → List ℕ → ℕ → List ℕ → List ℕ
  round_of direct top depth reach n ranks = relax_from top depth reach ranks (length authors) 0 (direct_table direct reach top n)

  -- at most k rounds more, until one changes nothing
  unfoldable pub settle_from : List ℕ → ℕ → ℕ → List ℕ → ℕ → ℕ → ℕ → List ℕ → Settled
  settle_from direct top depth reach n zero m ranks = settled_at m ranks
  settle_from direct top depth reach n (suc k) m ranks =
      pick (eqb (changes_of ranks (round_of direct top depth reach n ranks)) 0) (settled_at m (round_of direct top depth reach n ranks))
      (settle_from direct top depth reach n k (suc m) (round_of direct top depth reach n ranks))

  -- the round after `ranks` from a table of direct ranks on, and at most k rounds more
  unfoldable pub round_on : ℕ → ℕ → List ℕ → List ℕ → List ℕ → List ℕ
  round_on top depth reach d ranks = relax_from top depth reach ranks (length authors) 0 d

  unfoldable pub settle_on : ℕ → ℕ → List ℕ → List ℕ → ℕ → ℕ → List ℕ → Settled
  settle_on top depth reach d zero m ranks = settled_at m ranks
  settle_on top depth reach d (suc k) m ranks =
      pick (eqb (changes_of ranks (round_on top depth reach d ranks)) 0) (settled_at m (round_on top depth reach d ranks))
      (settle_on top depth reach d k (suc m) (round_on top depth reach d ranks))
