-- The ways out of the functions of `word`. Assumes nothing.
use mathlib.Core.Path.{◌≡◌}
use mathlib.Core.Bool.{Bool, true, false}
use mathlib.Core.List.{List}
use Prim.Native.Nat.{ℕ, ◌+◌, ◌≤◌, ◌<◌}
use native.Mathlib.Numerals.{add-one}
use native.Mathlib.Nat.{add-zero, add-suc}
use lib.Dec.{eqb}
use lib.ListN.{length, get_or, drop, drop_of_length-le}
use lib.Seq.{drop-cons}
use Rattle.lexical.specs.Word.{lower, stands}

-- what is left of the word after k bytes
unfoldable pub stands_rest : List ℕ → ℕ → List ℕ → ℕ → Bool
stands_rest s at w k = stands s (at + k) (drop k w)

module _ (s : List ℕ) (at : ℕ) (w : List ℕ) where
  pub stands-start : stands_rest s at w 0 ≡ stands s at w
  unfolding stands_rest
  stands-start = rw (add-zero at)

  module _ (k : ℕ) (r : Bool) (inv : stands_rest s at w k ≡ r) where
    pub stands-end : length w ≤ k → true ≡ r
    unfolding stands_rest stands
    stands-end h = rw (drop_of_length-le w h) at inv

    module _ (h : k < length w) (b : ℕ) (be : b ≡ get_or s (at + k) 0) (t : Bool) (te : t ≡ eqb (lower b) (get_or w k 0)) where
      pub stands-not : t ≡ false → false ≡ r
      unfolding stands_rest stands
      stands-not f = rw (drop-cons w k 0 h, ← be, ← te, f) at inv

      pub stands-more : t ≡ true → stands_rest s at w (k + 1) ≡ r
      unfolding stands_rest stands
      stands-more f = rw (add-one k, add-suc at k) (rw (drop-cons w k 0 h, ← be, ← te, f) at inv)

pub ruleset standing = (stands-start, stands-end, stands-not, stands-more)
