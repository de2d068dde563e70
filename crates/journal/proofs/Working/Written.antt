-- The page that appending leaves, cut or whole. Assumes nothing.
use Rattle.std.specs.Prelude.{◌≡◌, false, ℕ, ◌+◌, ◌/◌, ◌%◌, ◌<◌, ◌≤◌, min, ltb, take, drop}
use Rattle.std.proofs.Common.{sym, ap, subst, ◌∙◌, ltb-true, ltb-false}
use mathlib.Core.List.{List, [], ◌∷◌, ◌++◌}
use native.Mathlib.Omega.{arith}
use Rattle.std.proofs.Math.ListN.{length, get_or, length-take, length-drop}
use Rattle.std.proofs.Math.Seq.{ext_get_or, get_or-take, get_or-drop}
use Rattle.text.specs.Choice.{split}
use Rattle.text.specs.Counted.{part, pair_at}
use Rattle.journal.specs.Page.{entry}
use Rattle.journal.specs.Stores.{placed}
use Rattle.journal.specs.Working.Walk.{finished_at, entries, end_at}
use Rattle.journal.specs.Working.Walks.{unfinished, Walk, w[], w∷, walk-append}
use Rattle.journal.specs.Working.Placing.{stored-length, placed-take, placed-low, placed-in, placed-high}
use Rattle.journal.specs.Working.Rooms.{entry_length}
use Rattle.journal.specs.Working.Agreeing.{Agree, walk-agree, front, front-is, zeros-unfinished}
use Rattle.journal.specs.Working.Kept.{kept}
use Rattle.journal.proofs.Working.Kept.{kept_same, clean-kept}
use Rattle.journal.specs.Working.Written.{Granted, entry-answer, entry-close, entry-second, entry_first, two_bytes_lem, written_cut}

module _ (p a : List ℕ) (e : ℕ) (g : Granted p a e) (k : ℕ) where
  fit : e + length (take k (entry a)) ≤ length p
  fit = omega (arith, length-take k (entry a), entry_length a, g.fits)

  pub write-long : length (written_cut k p e a) ≡ length p
  unfolding written_cut
  write-long = stored-length p (take k (placed e (entry a)))

  pub write_low : (i : ℕ) → i < e → get_or (written_cut k p e a) i 0 ≡ get_or p i 0
  unfolding written_cut
  write_low i h = rw (placed-take k e (entry a)) (placed-low p e (take k (entry a)) i h)

  pub write-in : (j : ℕ) → j < k → j < length a + 3 → get_or (written_cut k p e a) (e + j) 0 ≡ get_or (entry a) j 0
  unfolding written_cut
  write-in j h l =
      rw (placed-take k e (entry a))
      (placed-in p e (take k (entry a)) j (omega (arith, length-take k (entry a), entry_length a)) fit ∙ get_or-take k (entry a) j 0 h)

  pub write-high : (i : ℕ) → e + min k (length a + 3) ≤ i → get_or (written_cut k p e a) i 0 ≡ 0
  unfolding written_cut
  write-high i h =
      rw (placed-take k e (entry a))
      (placed-high p e (take k (entry a)) i (omega (arith, length-take k (entry a), entry_length a)) ∙ g.clear i (omega arith))

  pub write-pair : 2 ≤ k → pair_at (written_cut k p e a) e ≡ length a
  unfolding pair_at
  write-pair h =
      let s : e ≡ e + 0 = omega arith in
      let x : get_or (written_cut k p e a) e 0 ≡ length a / 256
      = (ap (λ (i : ℕ). get_or (written_cut k p e a) i 0) s) ∙ write-in 0 (omega arith) (omega arith) ∙ entry_first a in
      let y : get_or (written_cut k p e a) (e + 1) 0 ≡ length a % 256 = write-in 1 (omega arith) (omega arith) ∙ entry-second a in
      rw (x, y) (two_bytes_lem (length a))

  write-agree : Agree p (written_cut k p e a) (end_at p 1)
  write-agree = record { long = write-long; same = λ i h. write_low i (omega (arith, g.ends)) }

  -- before the closing byte is stored no finished entry stands there
  write-stops : k < length a + 3 → finished_at (written_cut k p e a) e ≡ false
  write-stops h =
      unfinished (written_cut k p e a) e (λ f.
      let u : 0 < pair_at (written_cut k p e a) e = f.above in
      split (ltb (pair_at (written_cut k p e a) e + 2) k)
      (λ t. let b : pair_at (written_cut k p e a) e + 2 < k = ltb-true _ k t in
      let no : ⊥ = omega (arith, write-pair (omega arith)) in no)
      (λ t. let b : k ≤ pair_at (written_cut k p e a) e + 2 = ltb-false _ k t in
      let z : get_or (written_cut k p e a) (e + pair_at (written_cut k p e a) e + 2) 0 ≡ 0 = write-high _ (omega arith) in
      let no : ⊥ = omega (arith, z, f.closed) in no))

  -- once it is stored one does
  module _ (h : length a + 3 ≤ k) where
    write-answer : part (written_cut k p e a) (e + 2) (length a) ≡ a
    unfolding part
    write-answer =
        let l : length (take (length a) (drop (e + 2) (written_cut k p e a))) ≡ length a
        = omega (arith, length-take (length a) (drop (e + 2) (written_cut k p e a)), length-drop (e + 2) (written_cut k p e a), write-long, g.fits) in
        ext_get_or 0 (take (length a) (drop (e + 2) (written_cut k p e a))) a l
        (λ i b. let c : i < length a = omega arith in
        let s : e + 2 + i ≡ e + (i + 2) = omega arith in
        rw (get_or-take (length a) (drop (e + 2) (written_cut k p e a)) i 0 c, get_or-drop (e + 2) (written_cut k p e a) i 0, s)
        (write-in (i + 2) (omega arith) (omega arith) ∙ entry-answer a i c))

    write-walk : Walk (written_cut k p e a) e (a ∷ []) (e + length a + 3)
    write-walk =
        let s : pair_at (written_cut k p e a) e ≡ length a = write-pair (omega arith) in
        let o : 0 < pair_at (written_cut k p e a) e = rw s g.some in
        let i : e + pair_at (written_cut k p e a) e + 3 ≤ length (written_cut k p e a) = omega (arith, s, write-long, g.fits) in
        let r : e + length a + 2 ≡ e + (length a + 2) = omega arith in
        let c : get_or (written_cut k p e a) (e + pair_at (written_cut k p e a) e + 2) 0 ≡ 1
        = rw (s, r) (write-in (length a + 2) (omega arith) (omega arith) ∙ entry-close a) in
        let y : part (written_cut k p e a) (e + 2) (pair_at (written_cut k p e a) e) ≡ a = rw s write-answer in
        w∷ {e = e + length a + 3} {x = a} {l = []} (record { above = o; within = i; closed = c }) y (rw s w[])

    pub write-is : (entries (written_cut k p e a) ≡ entries p ++ (a ∷ [])) × (end_at (written_cut k p e a) 1 ≡ e + length a + 3)
    write-is =
        let w : Walk (written_cut k p e a) 1 (entries p) e = subst (λ (x : ℕ). Walk (written_cut k p e a) 1 (entries p) x) (sym g.ends) (walk-agree (front p) write-agree) in
        front-is (walk-append w write-walk) (zeros-unfinished (written_cut k p e a) (e + length a + 3) (λ i l. write-high i (omega arith)))

    pub write_kept : kept (written_cut k p e a) ≡ written_cut k p e a
    write_kept = clean-kept (written_cut k p e a) (omega (arith, write-long, g.least)) (λ i l. write-high i (omega (arith, write-is.1)))

  -- a cut before the closing byte: recovery gives the page before
  pub append-undone : k < length a + 3 → kept (written_cut k p e a) ≡ p
  append-undone h =
      let one : 1 ≤ length p = omega (arith, g.least) in
      let s : finished_at (written_cut k p e a) (end_at p 1) ≡ false = rw (sym g.ends) (write-stops h) in
      let i = front-is (walk-agree (front p) write-agree) s in
      kept_same p one (written_cut k p e a) write-agree i.1
      ∙ clean-kept p one (λ i l. g.clear i (omega (arith, g.ends)))
