-- Working definitions: requesters entered into the index and marked, and the ways out of the functions that do it. Assumes nothing.
use Rattle.std.specs.Prelude.{◌≡◌, refl, ℕ, suc, ◌+◌, ◌<◌, ◌≤◌, length, get_or, set, None, Some}
use Rattle.std.proofs.Common.{sym, add-one, drop_of_length-le, drop-cons}
use mathlib.Core.List.{List, [], ◌∷◌}
use Rattle.std.proofs.Math.ListN.{drop}
use Rattle.std.proofs.Math.Seq.{set_out}
use Rattle.text.specs.Counted.{counted}
use Rattle.principal.specs.Principal.{policy}
use Rattle.index.specs.Working.Adding.{index_of}
use Rattle.index.specs.Working.Entering.{Kept, Known, known, numbered, enter_in}
use Rattle.index.specs.declared.Numbered.{Numbered}
use Rattle.index.specs.declared.Index.{Index}

-- the index's count and end, its pool and table, and the marks
pub data Asked : Type 0 where
  asked : Index → List ℕ → List ℕ → List ℕ → Asked

abbrev pub on_entered : List ℕ → Index → Kept → Asked
on_entered direct x (numbered None p l) = asked x p l direct
on_entered direct x (numbered (Some k) p l) = asked (index_of k.count k.end) p l (set direct k.number 1)

unfoldable pub ask_in : List ℕ → List ℕ → List ℕ → Index → List ℕ → Asked
ask_in pool places direct x id = on_entered direct x (enter_in pool places x.count x.end id)

-- one requester after the other
unfoldable pub all_from : List ℕ → List ℕ → Asked → Asked
all_from s [] a = a
all_from s (p ∷ ps) (asked x pool places direct) = all_from s ps (ask_in pool places direct x (counted s p))

-- `mark`
pub mark-past : (l : List ℕ) (k : ℕ) → length l ≤ k → l ≡ set l k 1
mark-past l k h = sym (set_out l k 1 h)

-- `ask`
module _ (pool places direct : List ℕ) (x : Index) (id : List ℕ) (r : Known) (p l : List ℕ) (e : numbered r p l ≡ enter_in pool places x.count x.end id) where
  pub ask-full : r ≡ None → asked x p l direct ≡ ask_in pool places direct x id
  unfolding ask_in
  ask-full k = rw (← e, k)

  pub ask-at : (c i m : ℕ) (d : List ℕ) → r ≡ known c i m → d ≡ set direct i 1 → asked (index_of c m) p l d ≡ ask_in pool places direct x id
  unfolding ask_in
  ask-at c i m d k de = rw (de, ← e, k)

-- `ask_all`, with the invariant `all_from s (drop i ps) (asked ..) ≡ a`
pub all_start : (s ps : List ℕ) (a : Asked) → all_from s (drop 0 ps) a ≡ all_from s ps a
all_start s ps a = refl

module _ (s ps : List ℕ) (i : ℕ) (x : Index) (pool places direct : List ℕ) (a : Asked) (inv : all_from s (drop i ps) (asked x pool places direct) ≡ a) where
  pub all_end : length ps ≤ i → asked x pool places direct ≡ a
  unfolding all_from
  all_end h = let z : all_from s [] (asked x pool places direct) ≡ a = rw (drop_of_length-le ps h) at inv in z

  pub all_more : i < length ps → (y : Index) (p l d id : List ℕ) (k : ℕ) → k ≡ get_or ps i 0 → id ≡ counted s k → asked y p l d ≡ ask_in pool places direct x id
      → all_from s (drop (i + 1) ps) (asked y p l d) ≡ a
  unfolding all_from
  all_more h y p l d id k ke ie e =
      rw (add-one i, e, ie, ke) (let z : all_from s (get_or ps i 0 ∷ drop (suc i) ps) (asked x pool places direct) ≡ a = rw (drop-cons ps i 0 h) at inv in z)

-- the index with POLICY alone
pub data Begun : Type 0 where
  begun : Index → List ℕ → List ℕ → Begun

abbrev pub on_begun : Kept → Begun
on_begun (numbered None p l) = begun (index_of 0 0) p l
on_begun (numbered (Some k) p l) = begun (index_of k.count k.end) p l

unfoldable pub begin_in : List ℕ → List ℕ → Begun
begin_in pool places = on_begun (enter_in pool places 0 0 policy)

-- `begin`
module _ (pool places : List ℕ) (r : Known) (p l : List ℕ) (e : numbered r p l ≡ enter_in pool places 0 0 (80 ∷ 79 ∷ 76 ∷ 73 ∷ 67 ∷ 89 ∷ [])) where
  pub begin-full : r ≡ None → begun (index_of 0 0) p l ≡ begin_in pool places
  unfolding begin_in policy
  begin-full k = rw (← e, k)

  pub begin-at : (k : Numbered) → r ≡ Some k → begun (index_of k.count k.end) p l ≡ begin_in pool places
  unfolding begin_in policy
  begin-at n k = rw (← e, k)
