-- The page that recovery leaves, cut or whole. Assumes nothing.
use Rattle.std.specs.Prelude.{◌≡◌, refl, false, List, ℕ, ◌+◌, ◌-◌, ◌<◌, ◌≤◌, ltb, get_or, take}
use Rattle.std.proofs.Common.{sym, ap, ◌∙◌, arith, ext_get_or}
use Rattle.std.proofs.Math.ListN.{length, get_or-eq_default}
use borrow.Author.Tests.{ltb-true, ltb-false}
use Rattle.text.specs.Choice.{split, clash}
use Rattle.text.specs.Counted.{pair_at}
use Rattle.journal.specs.Stores.{stored, cleared}
use Rattle.journal.specs.Working.Walk.{finished_at, entries, end_at}
use Rattle.journal.specs.Working.Walks.{facts-finished, unfinished}
use Rattle.journal.specs.Working.Placing.{stored-length, cleared-low}
use Rattle.journal.proofs.Working.Placing.{cleared-in}
use Rattle.journal.specs.Working.Ways.{end-within}
use Rattle.journal.specs.Working.Agreeing.{Agree, agree-pair, walk-agree, front, front-stops, front-is}
use Rattle.journal.specs.Working.Kept.{kept, kept-cut, kept-long, kept_cut}

module _ (p : List ℕ) (one : 1 ≤ length p) where
  ends : end_at p 1 ≤ length p
  ends = end-within p 1 one

  module _ (k : ℕ) (few : k ≤ length p - end_at p 1) where
    pub cut-long : length (kept_cut k p) ≡ length p
    unfolding kept_cut
    cut-long = stored-length p (take k (cleared (length p - end_at p 1) (end_at p 1)))

    pub cut_low : (i : ℕ) → i < length p - k → get_or (kept_cut k p) i 0 ≡ get_or p i 0
    unfolding kept_cut
    cut_low i h = cleared-low p k (length p - end_at p 1) (end_at p 1) i (omega (arith, ends))

    pub cut_high : (i : ℕ) → length p - k ≤ i → get_or (kept_cut k p) i 0 ≡ 0
    unfolding kept_cut
    cut_high i h =
        split (ltb i (length p))
        (λ t. let b : i < length p = ltb-true i (length p) t in
        cleared-in p k (length p - end_at p 1) (end_at p 1) i few (omega (arith, ends)) (omega (arith, ends)) (omega (arith, ends)))
        (λ t. let b : length p ≤ i = ltb-false i (length p) t in
        get_or-eq_default (stored p (take k (cleared (length p - end_at p 1) (end_at p 1)))) 0
        (omega (arith, stored-length p (take k (cleared (length p - end_at p 1) (end_at p 1))))))

    cut-agree : Agree p (kept_cut k p) (end_at p 1)
    cut-agree = record { long = cut-long; same = λ i h. cut_low i (omega (arith, ends)) }

    cut-before : Agree p (kept_cut k p) (length p - k)
    cut-before = record { long = cut-long; same = cut_low }

    -- no finished entry comes to be behind the finished ones
    cut-stops : finished_at (kept_cut k p) (end_at p 1) ≡ false
    cut-stops =
        unfinished (kept_cut k p) (end_at p 1) (λ f.
        let w : end_at p 1 + pair_at (kept_cut k p) (end_at p 1) + 3 ≤ length (kept_cut k p) = f.within in
        split (ltb (end_at p 1 + pair_at (kept_cut k p) (end_at p 1) + 2) (length p - k))
        (λ t. let b : end_at p 1 + pair_at (kept_cut k p) (end_at p 1) + 2 < length p - k = ltb-true _ (length p - k) t in
        let s : pair_at (kept_cut k p) (end_at p 1) ≡ pair_at p (end_at p 1) = agree-pair p (kept_cut k p) (length p - k) (end_at p 1) cut-before (omega arith) in
        let a : 0 < pair_at p (end_at p 1) = rw (sym s) f.above in
        let i : end_at p 1 + pair_at p (end_at p 1) + 3 ≤ length p = omega (arith, cut-long) in
        let c : get_or (kept_cut k p) (end_at p 1 + pair_at p (end_at p 1) + 2) 0 ≡ 1 = rw (sym s) f.closed in
        let d : get_or p (end_at p 1 + pair_at p (end_at p 1) + 2) 0 ≡ 1 = sym (cut_low (end_at p 1 + pair_at p (end_at p 1) + 2) (omega arith)) ∙ c in
        clash (facts-finished p (end_at p 1) (record { above = a; within = i; closed = d })) (front-stops p))
        (λ t. let b : length p - k ≤ end_at p 1 + pair_at (kept_cut k p) (end_at p 1) + 2 = ltb-false _ (length p - k) t in
        let z : get_or (kept_cut k p) (end_at p 1 + pair_at (kept_cut k p) (end_at p 1) + 2) 0 ≡ 0 = cut_high _ b in
        let no : ⊥ = omega (arith, z, f.closed) in no))

    -- a cut within recovery leaves the finished entries and where they end
    pub cut-is : (entries (kept_cut k p) ≡ entries p) × (end_at (kept_cut k p) 1 ≡ end_at p 1)
    cut-is = front-is (walk-agree (front p) cut-agree) cut-stops

module _ (p : List ℕ) (one : 1 ≤ length p) where
  pub kept_low : (i : ℕ) → i < end_at p 1 → get_or (kept p) i 0 ≡ get_or p i 0
  kept_low i h =
      rw (sym (kept-cut p (length p - end_at p 1) (omega arith))) (cut_low p one (length p - end_at p 1) (omega arith) i (omega (arith, end-within p 1 one)))

  pub kept_high : (i : ℕ) → end_at p 1 ≤ i → get_or (kept p) i 0 ≡ 0
  kept_high i h =
      rw (sym (kept-cut p (length p - end_at p 1) (omega arith))) (cut_high p one (length p - end_at p 1) (omega arith) i (omega (arith, end-within p 1 one)))

module _ (p : List ℕ) (one : 1 ≤ length p) where
  -- a page that agrees with p up to the end of its finished entries, where none stands behind them, is recovered to the same
  pub kept_same : (q : List ℕ) → Agree p q (end_at p 1) → end_at q 1 ≡ end_at p 1 → kept q ≡ kept p
  kept_same q g s =
      let m : 1 ≤ length q = omega (arith, g.long) in
      ext_get_or 0 (kept q) (kept p) (kept-long q ∙ g.long ∙ sym (kept-long p))
      (λ i b. split (ltb i (end_at p 1))
      (λ t. let l : i < end_at p 1 = ltb-true i (end_at p 1) t in
      kept_low q m i (omega (arith, s)) ∙ g.same i l ∙ sym (kept_low p one i l))
      (λ t. let l : end_at p 1 ≤ i = ltb-false i (end_at p 1) t in
      kept_high q m i (omega (arith, s)) ∙ sym (kept_high p one i l)))

-- ---- a cut within recovery, followed by recovery, ends with the same page
pub recover-again : (p : List ℕ) → 1 ≤ length p → (k : ℕ) → kept (kept_cut k p) ≡ kept p
recover-again p one k =
    split (ltb (length p - end_at p 1) k)
    (λ t. let h : length p - end_at p 1 < k = ltb-true _ k t in
    (rw (kept-cut p k (omega arith), sym (kept-cut p (length p - end_at p 1) (omega arith))) refl) ∙ within (length p - end_at p 1) (omega arith))
    (λ t. within k (ltb-false _ k t))
  where
    within : (k : ℕ) → k ≤ length p - end_at p 1 → kept (kept_cut k p) ≡ kept p
    within k few = kept_same p one (kept_cut k p) (cut-agree p one k few) (cut-is p one k few).1

-- recovery keeps the finished entries, and recovery of what it leaves changes nothing
pub recover-entries : (p : List ℕ) → 1 ≤ length p → entries (kept p) ≡ entries p
recover-entries p one =
    rw (sym (kept-cut p (length p - end_at p 1) (omega arith))) (cut-is p one (length p - end_at p 1) (omega arith)).0

pub recover-twice : (p : List ℕ) → 1 ≤ length p → kept (kept p) ≡ kept p
recover-twice p one = ap kept (sym (kept-cut p (length p - end_at p 1) (omega arith))) ∙ recover-again p one (length p - end_at p 1)

-- a page of finished entries and zeros is recovered to itself
pub clean-kept : (p : List ℕ) → 1 ≤ length p → ((i : ℕ) → end_at p 1 ≤ i → get_or p i 0 ≡ 0) → kept p ≡ p
clean-kept p one z =
    ext_get_or 0 (kept p) p (kept-long p)
    (λ i b. split (ltb i (end_at p 1))
    (λ t. kept_low p one i (ltb-true i (end_at p 1) t))
    (λ t. kept_high p one i (ltb-false i (end_at p 1) t) ∙ sym (z i (ltb-false i (end_at p 1) t))))

-- where they end stays too
pub recover-end : (p : List ℕ) → 1 ≤ length p → end_at (kept p) 1 ≡ end_at p 1
recover-end p one =
    rw (sym (kept-cut p (length p - end_at p 1) (omega arith))) (cut-is p one (length p - end_at p 1) (omega arith)).1
