-- Written answers are read again, and the pages that appending and recovery leave are those that hold the answers, byte for byte. Assumes nothing.
use Rattle.std.specs.Prelude.{◌≡◌, true, List, [], ◌∷◌, ◌++◌, ℕ, ◌+◌, ◌-◌, ◌<◌, ◌≤◌, ltb, length, get_or, drop}
use Rattle.std.proofs.Common.{sym, ap, ◌∙◌, arith, ltb-true, ltb-false}
use Rattle.std.proofs.Math.Seq.{get_or-drop}
use Rattle.text.specs.Choice.{split}
use Rattle.journal.specs.Page.{Content, zeros, holding}
use Rattle.journal.specs.Journal.{outcome, Appended, Recovered}
use Rattle.journal.specs.Working.Walk.{entries, end_at, rest_of}
use Rattle.journal.specs.Working.Rooms.{Fine, Roomy}
use Rattle.journal.specs.Working.Kept.{kept, kept-long}
use Rattle.journal.proofs.Working.Kept.{kept_low, kept_high}
use Rattle.journal.specs.Working.Written.{Granted, granted-at, written_cut, written-whole}
use Rattle.journal.proofs.Working.Written.{write-long, write_low, write-in, write-high, write-is}
use Rattle.journal.specs.Theorems.Content.{content-walk}
use Rattle.journal.proofs.Theorems.Determined.{appended-page}
use Rattle.journal.specs.Theorems.PowerCut.{recovered-fine, fine-recovered, zeros-all}
use Rattle.journal.proofs.Theorems.PowerCut.{kept_fine, written-fine, recovery-keeps, append-adds}
use Rattle.journal.specs.Theorems.RoundTrip.{Bytes, clean-holds, entry-bytes}

kept-bytes : (p : List ℕ) → Fine p → Bytes p → Bytes (kept p)
kept-bytes p f b i =
    let one : 1 ≤ length p = omega (arith, f.least) in
    split (ltb i (end_at p 1))
    (λ e. rw (kept_low p one i (ltb-true i (end_at p 1) e)) (b i))
    (λ e. rw (kept_high p one i (ltb-false i (end_at p 1) e)) (omega arith))

-- recovery leaves the page that holds the finished entries' answers
pub recovery-holds : {p q s : List ℕ} {l : List (List ℕ)} → Bytes p → Recovered p (outcome 0) q → Content p l s → q ≡ holding (length p) l
recovery-holds {p} {q} {s} {l} b c d =
    let f : Fine p = recovered-fine (λ ss. ss) p q c in
    let u : q ≡ kept p = (fine-recovered p f c).1 in
    let k = recovery-keeps c d (content-walk q) in
    let e : Content q l (rest_of q) = rw (sym k.0) (content-walk q) in
    let g : Fine q = rw u (kept_fine p f) in
    let h : Bytes q = λ i. rw u (kept-bytes p f b i) in
    let n : length q ≡ length p = ap length u ∙ kept-long p in
    clean-holds q (rest_of q) g h e k.1 ∙ ap (λ (x : ℕ). holding x l) n

module _ (p a : List ℕ) (y : Roomy p a) where
  g : Granted p a (end_at p 1)
  g = granted-at p a y

  whole-bytes : Bytes p → Bytes a → Bytes (written_cut (length a + 3) p (end_at p 1) a)
  whole-bytes b c i =
      let short : length a < 65536 = omega (arith, g.fits, y.fine.most) in
      split (ltb i (end_at p 1))
      (λ t. rw (write_low p a (end_at p 1) g (length a + 3) i (ltb-true i (end_at p 1) t)) (b i))
      (λ t. let l : end_at p 1 ≤ i = ltb-false i (end_at p 1) t in
      split (ltb (i - end_at p 1) (length a + 3))
      (λ u. let h : i - end_at p 1 < length a + 3 = ltb-true _ _ u in
      let s : i ≡ end_at p 1 + (i - end_at p 1) = omega arith in
      rw (ap (λ (k : ℕ). get_or (written_cut (length a + 3) p (end_at p 1) a) k 0) s ∙ write-in p a (end_at p 1) g (length a + 3) (i - end_at p 1) h h)
      (entry-bytes a short c (i - end_at p 1)))
      (λ u. let h : length a + 3 ≤ i - end_at p 1 = ltb-false _ _ u in
      rw (write-high p a (end_at p 1) g (length a + 3) i (omega arith)) (omega arith)))

  whole-zeros : zeros (rest_of (written_cut (length a + 3) p (end_at p 1) a)) ≡ true
  unfolding rest_of
  whole-zeros =
      zeros-all (drop (end_at (written_cut (length a + 3) p (end_at p 1) a) 1) (written_cut (length a + 3) p (end_at p 1) a))
      (λ i. get_or-drop (end_at (written_cut (length a + 3) p (end_at p 1) a) 1) (written_cut (length a + 3) p (end_at p 1) a) i 0
      ∙ write-high p a (end_at p 1) g (length a + 3) (end_at (written_cut (length a + 3) p (end_at p 1) a) 1 + i)
      (omega (arith, (write-is p a (end_at p 1) g (length a + 3) (omega arith)).1)))

-- appending leaves the page that holds the answers, the new one last
pub append-holds : {p a w s : List ℕ} {l : List (List ℕ)} → Bytes p → Bytes a → Appended p a (outcome 0) w → Content p l s
    → w ≡ holding (length p) (l ++ (a ∷ []))
append-holds {p} {a} {w} {s} {l} b c d k =
    let u = appended-page (λ ss. ss) p a w d in
    let y : Roomy p a = u.0 in
    let z : w ≡ written_cut (length a + 3) p (end_at p 1) a = u.1 ∙ written-whole p a in
    let m : entries w ≡ l ++ (a ∷ []) = append-adds d k (content-walk w) in
    let v : Content w (l ++ (a ∷ [])) (rest_of w) = rw (sym m) (content-walk w) in
    let f : Fine w = rw z (written-fine (length a + 3) p a (end_at p 1) y.fine (granted-at p a y)) in
    let h : Bytes w = λ i. rw z (whole-bytes p a y b c i) in
    let n : length w ≡ length p = ap length z ∙ write-long p a (end_at p 1) (granted-at p a y) (length a + 3) in
    clean-holds w (rest_of w) f h v (ap (λ (x : List ℕ). zeros (rest_of x)) z ∙ whole-zeros p a y) ∙ ap (λ (x : ℕ). holding x (l ++ (a ∷ []))) n
