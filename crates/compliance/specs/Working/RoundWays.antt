-- The ways of the functions that compute rounds. Assumes nothing.
use Rattle.std.specs.Prelude.{◌≡◌, Bool, true, false, ◌&&◌, set, take, replicate}
use Rattle.std.proofs.Math.Path.{refl, sym, ap}
use Rattle.std.proofs.Common.{◌∙◌, zero-add, length-append, take-suc, length-take-le}
use mathlib.Core.List.{List, [], ◌++◌, append-nil}
use Prim.Native.Nat.{ℕ, zero, suc, ◌+◌, ◌-◌, ◌≤◌, ◌<◌, min, max}
use native.Mathlib.Omega.{arith}
use Rattle.std.proofs.Math.Numerals.{add-one}
use Rattle.std.proofs.Math.Nat.{sub-zero}
use Rattle.std.proofs.Math.Dec.{eqb}
use Rattle.std.proofs.Math.ListN.{length, get_or, drop, drop_of_length-le}
use Rattle.std.proofs.Math.Seq.{drop-cons, set-get_or, set_out, take_all, append_snoc, drop-length}
use Rattle.std.proofs.lemmas.List.{set_at, get_or_at}
use borrow.Author.Tests.{eq-eqb, ne_eqb}
use Rattle.text.specs.Choice.{pick, split}
use Rattle.compliance.specs.Working.Machine.{worth}
use Rattle.compliance.specs.Tables.{program_of}
use Rattle.compliance.specs.Working.Tables.{one_less}
use Rattle.compliance.specs.Working.Rounds.{granted_of, raised, direct_at, direct_table, changes_of, Advanced, Settled, relaxed_at, relax_from, round_of, settle_from, round_on, settle_on}

pub granted-is : (conds ends code : List ℕ) (top depth : ℕ) (ranks : List ℕ) (j : ℕ) (prog : List ℕ) (w c r : ℕ)
    → prog ≡ program_of ends code j → w ≡ worth ranks top depth prog → c ≡ get_or conds j 0 → r ≡ min c w → r ≡ granted_of conds ends code top depth ranks j
unfolding granted_of
granted-is conds ends code top depth ranks j prog w c r pe we ce re = rw (re, ce, we, pe)

pub raise-in : (next : List ℕ) (i v g : ℕ) → g ≡ max (get_or next i 0) v → set next i g ≡ raised next i v
unfolding raised
raise-in next i v g e = rw e

pub raise-out : (next : List ℕ) (i v : ℕ) → length next ≤ i → next ≡ raised next i v
unfolding raised
raise-out next i v h = sym (set_out next i _ h)

module _ (authors conds ends code : List ℕ) (top depth : ℕ) (reach ranks : List ℕ) (j : ℕ) (next : List ℕ)
    (p : ℕ) (pe : p ≡ get_or authors j 0) (f : Bool) (fe : f ≡ eqb (get_or reach p 0) 1) where
  pub relax-in : f ≡ true → (v : ℕ) (z : List ℕ) → v ≡ granted_of conds ends code top depth ranks j → z ≡ raised next p v
      → z ≡ relaxed_at authors conds ends code top depth reach ranks j next
  unfolding relaxed_at
  relax-in h v z ve ze = simp (ze, ve, sym pe, sym fe, h)

  -- conditions that rank no higher than the authorizer raise nothing
  pub relax-idle : f ≡ true → (g c : ℕ) → g ≡ get_or next p 0 → c ≡ get_or conds j 0 → c ≤ g → next ≡ relaxed_at authors conds ends code top depth reach ranks j next
  unfolding relaxed_at raised granted_of
  relax-idle h g c ge ce l =
      let e : max (get_or next p 0) (min (get_or conds j 0) (worth ranks top depth (program_of ends code j))) ≡ get_or next p 0 = rw (← ge, ← ce) (omega arith) in
      simp (sym pe, sym fe, h, e, set-get_or next p 0)

  pub relax-out : f ≡ false → next ≡ relaxed_at authors conds ends code top depth reach ranks j next
  unfolding relaxed_at
  relax-out n = simp (sym pe, sym fe, n)

module _ (authors conds ends code : List ℕ) (top depth : ℕ) (reach ranks : List ℕ) where
  pub relax-start : (next : List ℕ) → relax_from authors conds ends code top depth reach ranks (length authors - 0) 0 next ≡ relax_from authors conds ends code top depth reach ranks (length authors) 0 next
  relax-start next = rw sub-zero

  module _ (j : ℕ) (next a : List ℕ) (inv : relax_from authors conds ends code top depth reach ranks (length authors - j) j next ≡ a) where
    pub relax-more : j < length authors → (st : ℕ) → st ≡ depth → (z : List ℕ) → z ≡ relaxed_at authors conds ends code top st reach ranks j next
        → relax_from authors conds ends code top depth reach ranks (length authors - (j + 1)) (j + 1) z ≡ a
    unfolding relax_from
    relax-more h st se z e = rw (e, se, add-one j) (rw (one_less (length authors) j h, add-one j) at inv)

    pub relax-end : length authors ≤ j → next ≡ a
    unfolding relax_from
    relax-end h = let z : length authors - j ≡ 0 = omega arith in rw z at inv

module _ (direct reach : List ℕ) (top i : ℕ) (f : Bool) (fe : f ≡ eqb (get_or reach i 0) 1) where
  module _ (d : ℕ) (de : d ≡ get_or direct i 0) (h : f ≡ true) where
    pub direct-top : d ≡ 1 → top ≡ direct_at direct reach top i
    unfolding direct_at
    direct-top k = simp (sym fe, sym de, h, eq-eqb d 1 k)

    pub direct-none : (d ≡ 1 → ⊥) → 0 ≡ direct_at direct reach top i
    unfolding direct_at
    direct-none k = simp (sym fe, sym de, h, ne_eqb d 1 k)

  pub direct-out : f ≡ false → 0 ≡ direct_at direct reach top i
  unfolding direct_at
  direct-out n = simp (sym fe, n)

pub direct-length : (direct reach : List ℕ) (top n : ℕ) → length (direct_table direct reach top n) ≡ n
unfolding direct_table
direct-length direct reach top zero = refl
direct-length direct reach top (suc n) = rw length-append (omega (arith, direct-length direct reach top n))

pub table-start : (direct reach : List ℕ) (top : ℕ) (d : List ℕ) → d ≡ direct_table direct reach top 0 ++ drop 0 d
unfolding direct_table
table-start direct reach top d = refl

module _ (direct reach : List ℕ) (top i : ℕ) (d next : List ℕ) (inv : next ≡ direct_table direct reach top i ++ drop i d) where
  pub table_more : i < length d → (v : ℕ) → v ≡ direct_at direct reach top i
      → set next i v ≡ direct_table direct reach top (i + 1) ++ drop (i + 1) d
  unfolding direct_table
  table_more h v e = rw (inv, e, add-one i, drop-cons d i 0 h)
      (set_at (direct_table direct reach top i) (get_or d i 0) (drop (suc i) d) (direct_at direct reach top i) i (direct-length direct reach top i)
      ∙ sym (append_snoc (direct_table direct reach top i) (direct_at direct reach top i) (drop (suc i) d)))

  pub table-end : i ≤ length d → length d ≤ i → next ≡ direct_table direct reach top (length d)
  table-end h k =
      let e : i ≡ length d = omega arith in
      inv ∙ rw (e, drop-length d) (append-nil _)

-- ---- adopt: a becomes b, and it is told whether nothing changed

unfoldable pub still_from : List ℕ → List ℕ → ℕ → Bool → Bool
still_from a b i still = still && eqb (changes_of (drop i a) (drop i b)) 0

unfoldable pub adopted : List ℕ → List ℕ → ℕ → List ℕ
adopted a b i = take i b ++ drop i a

pub adopt-start : (a b : List ℕ) → a ≡ adopted a b 0
unfolding adopted
adopt-start a b = refl

pub still-start : (a b : List ℕ) → still_from a b 0 true ≡ eqb (changes_of a b) 0
unfolding still_from
still-start a b = refl

-- one place more
still-next : (still : Bool) (x y n : ℕ) → ((still && eqb x y) && eqb n 0) ≡ (still && eqb (pick (eqb x y) 0 1 + n) 0)
still-next false x y n = refl
still-next true x y n = split (eqb x y) (λ e. rw (e, zero-add n)) (λ e. rw (e, ne_eqb (1 + n) 0 (λ z. omega (arith, z))))

still-last : (still : Bool) → (still && true) ≡ still
still-last true = refl
still-last false = refl

module _ (a b : List ℕ) (l : length a ≡ length b) (i : ℕ) (r : List ℕ) (inv : r ≡ adopted a b i) where
  adopt-read : i < length a → get_or r i 0 ≡ get_or a i 0
  unfolding adopted
  adopt-read h = rw (inv, drop-cons a i 0 h) (get_or_at (take i b) (get_or a i 0) (drop (suc i) a) 0 i (length-take-le i b (omega arith)))

  pub adopt-more : i < length a → set r i (get_or b i 0) ≡ adopted a b (i + 1)
  unfolding adopted
  adopt-more h = rw (inv, add-one i, drop-cons a i 0 h)
      (set_at (take i b) (get_or a i 0) (drop (suc i) a) (get_or b i 0) i (length-take-le i b (omega arith))
      ∙ sym (rw (take-suc b i 0 (omega arith)) (append_snoc (take i b) (get_or b i 0) (drop (suc i) a))))

  pub still-more : (still c : Bool) → still_from a b i still ≡ c → i < length a → still_from a b (i + 1) (still && eqb (get_or r i 0) (get_or b i 0)) ≡ c
  unfolding still_from changes_of
  still-more still c e h =
      let u : (still && eqb (pick (eqb (get_or a i 0) (get_or b i 0)) 0 1 + changes_of (drop (suc i) a) (drop (suc i) b)) 0) ≡ c =
      rw (drop-cons a i 0 h, drop-cons b i 0 (omega arith)) at e in
      rw (add-one i, adopt-read h) (still-next still (get_or a i 0) (get_or b i 0) (changes_of (drop (suc i) a) (drop (suc i) b)) ∙ u)

  pub adopt-end : length a ≤ i → (still : Bool) → still_from a b i still ≡ eqb (changes_of a b) 0 → Advanced still r a b
  unfolding adopted still_from changes_of
  adopt-end h still e =
      let z : drop i a ≡ [] = drop_of_length-le a h in
      let u : (still && true) ≡ eqb (changes_of a b) 0 = rw z at e in
      record { told = sym (still-last still) ∙ u; ranks = inv ∙ rw (z, take_all i b (omega arith)) (append-nil b) }

-- ---- `settle`

pub blank-kept : (ranks next d : List ℕ) → ranks ≡ replicate (length next) 0 → length d ≡ length next → ranks ≡ replicate (length d) 0
blank-kept ranks next d e l = e ∙ rw l

settle-tables : (authors conds ends code direct : List ℕ) (top depth : ℕ) (reach : List ℕ) (n k m : ℕ) (ranks : List ℕ)
    → settle_on authors conds ends code top depth reach (direct_table direct reach top n) k m ranks ≡ settle_from authors conds ends code direct top depth reach n k m ranks
unfolding settle_on settle_from round_on round_of
settle-tables authors conds ends code direct top depth reach n zero m ranks = refl
settle-tables authors conds ends code direct top depth reach n (suc k) m ranks = rw (settle-tables authors conds ends code direct top depth reach n k (suc m) (round_of authors conds ends code direct top depth reach n ranks))

pub settle_is : (authors conds ends code direct : List ℕ) (top depth : ℕ) (reach : List ℕ) (n k : ℕ) (ranks d : List ℕ) → d ≡ direct_table direct reach top n
    → (s : Settled) → s ≡ settle_on authors conds ends code top depth reach d k 0 ranks → s ≡ settle_from authors conds ends code direct top depth reach n k 0 ranks
settle_is authors conds ends code direct top depth reach n k ranks d de s se = (rw de at se) ∙ settle-tables authors conds ends code direct top depth reach n k 0 ranks

-- ---- flags that read the same give the same rounds

module _ (authors conds ends code direct : List ℕ) (top depth : ℕ) (a b : List ℕ) (same : (i : ℕ) → get_or a i 0 ≡ get_or b i 0) where
  relaxed-same : (ranks : List ℕ) (j : ℕ) (next : List ℕ) → relaxed_at authors conds ends code top depth a ranks j next ≡ relaxed_at authors conds ends code top depth b ranks j next
  unfolding relaxed_at
  relaxed-same ranks j next = rw (same (get_or authors j 0))

  relax-same : (ranks : List ℕ) (k j : ℕ) (next : List ℕ) → relax_from authors conds ends code top depth a ranks k j next ≡ relax_from authors conds ends code top depth b ranks k j next
  unfolding relax_from
  relax-same ranks zero j next = refl
  relax-same ranks (suc k) j next =
      relax-same ranks k (suc j) (relaxed_at authors conds ends code top depth a ranks j next)
      ∙ ap (relax_from authors conds ends code top depth b ranks k (suc j)) (relaxed-same ranks j next)

  direct-same : (n : ℕ) → direct_table direct a top n ≡ direct_table direct b top n
  unfolding direct_table direct_at
  direct-same zero = refl
  direct-same (suc n) = rw (direct-same n, same n)

  round_same : (n : ℕ) (ranks : List ℕ) → round_of authors conds ends code direct top depth a n ranks ≡ round_of authors conds ends code direct top depth b n ranks
  unfolding round_of
  round_same n ranks = relax-same ranks (length authors) 0 (direct_table direct a top n) ∙ ap (relax_from authors conds ends code top depth b ranks (length authors) 0) (direct-same n)

  pub settle-same : (n k m : ℕ) (ranks : List ℕ) → settle_from authors conds ends code direct top depth a n k m ranks ≡ settle_from authors conds ends code direct top depth b n k m ranks
  unfolding settle_from
  settle-same n zero m ranks = refl
  settle-same n (suc k) m ranks = rw (round_same n ranks, settle-same n k (suc m) (round_of authors conds ends code direct top depth b n ranks))
