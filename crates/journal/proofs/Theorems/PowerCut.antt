-- The promises about a power cut, of the very relations that the contracts of the code state. Assumes nothing.
use Rattle.std.specs.Prelude.{◌≡◌, refl, true, ℕ, ◌+◌, ◌-◌, ◌<◌, ◌≤◌, ltb, take, drop}
use Rattle.std.proofs.Math.Path.{sym, ap}
use Rattle.std.proofs.Common.{◌∙◌, arith, take_all, get_or-drop, ltb-true, ltb-false}
use mathlib.Core.List.{List, [], ◌∷◌, ◌++◌}
use Rattle.std.proofs.Math.ListN.{length}
use Rattle.text.specs.Choice.{pick, split}
use Rattle.journal.specs.Page.{Content, zeros, entry}
use Rattle.journal.specs.Stores.{Store, stored, placed}
use Rattle.journal.specs.Journal.{granted, append_verdict, outcome, outcome_of, AppendCut, Appended, RecoverCut, Recovered}
use Rattle.journal.specs.Working.Walk.{entries, end_at, rest_of}
use Rattle.journal.specs.Working.Placing.{placed-length}
use Rattle.journal.specs.Working.Rooms.{Fine, Roomy, roomy-granted, entry_length}
use Rattle.journal.specs.Working.Requests.{appends}
use Rattle.journal.proofs.Working.Requests.{appending-is}
use Rattle.journal.specs.Working.Ways.{end-within}
use Rattle.journal.specs.Working.Kept.{kept, kept_cut, kept-cut, kept-long}
use Rattle.journal.proofs.Working.Kept.{cut-long, cut_low, kept_low, kept_high, recover-again, recover-entries, recover-twice, recover-end}
use Rattle.journal.specs.Working.Written.{Granted, granted-at, written_cut, written-whole}
use Rattle.journal.proofs.Working.Written.{write-long, write_low, write-is, write_kept, append-undone}
use Rattle.journal.specs.Theorems.Content.{content-walk, content-only, content-is}
use Rattle.journal.specs.Theorems.Determined.{recover-only, Went, went_on, went-not, recovered-page}
use Rattle.journal.proofs.Theorems.Determined.{appended-page}
use Rattle.journal.specs.declared.Outcome.{Outcome}
use Rattle.journal.specs.Theorems.PowerCut.{AfterCut, clean-verdict, end_after, fine-recovered, fine-too, one, recovered-fine, zeros-all}

pub kept_fine : (p : List ℕ) → Fine p → Fine (kept p)
kept_fine p f = fine-too p (kept p) f (kept-long p) (kept_low p (one p f) 0 (end_after p))

cut-fine : (k : ℕ) (p : List ℕ) → Fine p → Fine (kept_cut k p)
cut-fine k p f =
    split (ltb (length p - end_at p 1) k)
    (λ b. let h : length p - end_at p 1 < k = ltb-true _ k b in rw (kept-cut p k (omega arith)) (kept_fine p f))
    (λ b. let h : k ≤ length p - end_at p 1 = ltb-false _ k b in
    fine-too p (kept_cut k p) f (cut-long p (one p f) k h) (cut_low p (one p f) k h 0 (omega (arith, end_after p, end-within p 1 (one p f)))))

pub written-fine : (k : ℕ) (p a : List ℕ) (e : ℕ) → Fine p → Granted p a e → Fine (written_cut k p e a)
written-fine k p a e f g =
    fine-too p (written_cut k p e a) f (write-long p a e g k) (write_low p a e g k 0 (omega (arith, g.ends, end_after p)))

-- ---- a cut within recovery

-- "A cut within recovery, followed by recovery, ends with the same page": for every number of stores made
pub cut-recovery : (k : ℕ) {p q x y : List ℕ} {o r s : Outcome} → RecoverCut k p o q → Recovered p r x → Recovered q s y → (s ≡ r) × (y ≡ x)
unfolding kept_cut
cut-recovery k {p} {q} {x} {y} {o} {r} {s} c d e = of (recovered-page (take k) p o q c)
  where
    of : Went (take k) p o q → (s ≡ r) × (y ≡ x)
    of (went-not n v z same) = recover-only (λ ss. ss) (rw same at e) d
    of (went_on f z same) =
        let t : Recovered (kept_cut k p) s y = rw same at e in
        let u = fine-recovered (kept_cut k p) (cut-fine k p f) t in
        let w = fine-recovered p f d in
        (u.0 ∙ sym w.0, u.1 ∙ recover-again p (one p f) k ∙ sym w.1)

-- recovery of a recovered page changes nothing
pub recovery-again : {p q x : List ℕ} {r s : Outcome} → Recovered p r q → Recovered q s x → (s ≡ r) × (x ≡ q)
unfolding kept
recovery-again {p} {q} {x} {r} {s} c d = of (recovered-page (λ ss. ss) p r q c)
  where
    of : Went (λ ss. ss) p r q → (s ≡ r) × (x ≡ q)
    of (went-not n v z same) = recover-only (λ ss. ss) (rw same at d) c
    of (went_on f z same) =
        let t : Recovered (kept p) s x = rw same at d in
        let u = fine-recovered (kept p) (kept_fine p f) t in
        (u.0 ∙ sym z, u.1 ∙ recover-twice p (one p f) ∙ sym same)

kept-zeros : (p : List ℕ) → Fine p → zeros (rest_of (kept p)) ≡ true
unfolding rest_of
kept-zeros p f =
    zeros-all (drop (end_at (kept p) 1) (kept p))
    (λ i. get_or-drop (end_at (kept p) 1) (kept p) i 0 ∙ kept_high p (one p f) (end_at (kept p) 1 + i) (omega (arith, recover-end p (one p f))))

-- "Recovery keeps the finished entries from the front and clears the rest to zeros"
pub recovery-keeps : {p q s t : List ℕ} {l m : List (List ℕ)} → Recovered p (outcome 0) q → Content p l s → Content q m t → (m ≡ l) × (zeros t ≡ true)
recovery-keeps {p} {q} {s} {t} c d e =
    let f : Fine p = recovered-fine (λ ss. ss) p q c in
    let u : q ≡ kept p = (fine-recovered p f c).1 in
    let v = content-is p d in
    let w = content-is q e in
    (w.0 ∙ ap entries u ∙ recover-entries p (one p f) ∙ sym v.0, ap zeros (w.1 ∙ ap rest_of u) ∙ kept-zeros p f)

-- ---- a cut within appending

-- all stores, and those that are made of them
module _ (k : ℕ) (p a w q x : List ℕ) (r : Outcome) (y : Roomy p a) (we : w ≡ stored p (placed (end_at p 1) (entry a)))
    (qe : q ≡ stored p (take k (placed (end_at p 1) (entry a)))) (d : Recovered q r x) where
  g : Granted p a (end_at p 1)
  g = granted-at p a y

  written : Recovered (written_cut k p (end_at p 1) a) r x
  unfolding written_cut
  written = rw qe at d

  found : (r ≡ outcome 0) × (x ≡ kept (written_cut k p (end_at p 1) a))
  found = fine-recovered (written_cut k p (end_at p 1) a) (written-fine k p a (end_at p 1) y.fine g) written

  complete : length a + 3 ≤ k → written_cut k p (end_at p 1) a ≡ w
  unfolding written_cut
  complete h =
      let n : length (placed (end_at p 1) (entry a)) ≡ length a + 3 = placed-length (end_at p 1) (entry a) ∙ entry_length a in
      ap (λ (ss : List Store). stored p ss) (take_all k (placed (end_at p 1) (entry a)) (omega arith)) ∙ sym we

  after-cut : AfterCut k p a w x
  after-cut = record {
    undone = λ h. found.1 ∙ append-undone p a (end_at p 1) g k (omega (arith, entry_length a));
    finished = λ h.
        let n : length a + 3 ≤ k = omega (arith, entry_length a) in
        found.1 ∙ write_kept p a (end_at p 1) g k n ∙ complete n;
  }

  either : x ≡ pick (ltb k (length (entry a))) p w
  either =
      split (ltb k (length (entry a))) (λ t. rw t (after-cut.undone (ltb-true k (length (entry a)) t)))
      (λ t. rw t (after-cut.finished (ltb-false k (length (entry a)) t)))

-- "after a cut behind any single byte store these are all that were finished, and the interrupted one exactly if its closing byte was stored":
-- for every number of stores made, recovery gives the page before as long as the last store, the closing byte's, isn't among them, and else the page
-- with the entry
pub cut-append : (k : ℕ) {p a w q x : List ℕ} {r : Outcome} → Appended p a (outcome 0) w → AppendCut k p a (outcome 0) q → Recovered q r x
    → (r ≡ outcome 0) × (x ≡ pick (ltb k (length (entry a))) p w)
cut-append k {p} {a} {w} {q} {x} {r} whole c d =
    let u = appended-page (λ ss. ss) p a w whole in
    let v = appended-page (take k) p a q c in
    ((found k p a w q x r u.0 u.1 v.1 d).0, either k p a w q x r u.0 u.1 v.1 d)

-- appending adds the answer behind the finished entries
pub append-adds : {p a w s t : List ℕ} {l m : List (List ℕ)} → Appended p a (outcome 0) w → Content p l s → Content w m t → m ≡ l ++ (a ∷ [])
unfolding written_cut
append-adds {p} {a} {w} whole c d =
    let u = appended-page (λ ss. ss) p a w whole in
    let e : written_cut (length a + 3) p (end_at p 1) a ≡ w = sym (u.1 ∙ written-whole p a) in
    (content-is w d).0 ∙ ap entries (sym e) ∙ (write-is p a (end_at p 1) (granted-at p a u.0) (length a + 3) (omega arith)).0
    ∙ ap (λ (z : List (List ℕ)). z ++ (a ∷ [])) (sym (content-is p c).0)

roomy-appended : (p a : List ℕ) → Roomy p a → Appended p a (outcome 0) (stored p (placed (end_at p 1) (entry a)))
roomy-appended p a y =
    let v : append_verdict p (rest_of p) a ≡ granted = roomy-granted p a y in
    appends (λ ss. ss) p a (outcome 0) (stored p (placed (end_at p 1) (entry a))) (rw v refl)
    (rw (v, appending-is p a y.fine.least) refl)

-- so recovery after a cut finds the entries that were finished, and the interrupted one exactly if its closing byte was stored
pub cut-append-entries : (k : ℕ) {p a q x s t : List ℕ} {r : Outcome} {l m : List (List ℕ)} → AppendCut k p a (outcome 0) q → Recovered q r x
    → Content p l s → Content x m t → m ≡ pick (ltb k (length (entry a))) l (l ++ (a ∷ []))
cut-append-entries k {p} {a} {q} {x} {s} {t} {r} {l} {m} c d e f =
    let y : Roomy p a = (appended-page (take k) p a q c).0 in
    let whole : Appended p a (outcome 0) (stored p (placed (end_at p 1) (entry a))) = roomy-appended p a y in
    let z = (cut-append k whole c d).1 in
    split (ltb k (length (entry a)))
    (λ b. let g : x ≡ p = rw b at z in
    let h : Content p m t = rw g at f in
    rw b (content-only h e).0)
    (λ b. let g : x ≡ stored p (placed (end_at p 1) (entry a)) = rw b at z in
    let h : Content (stored p (placed (end_at p 1) (entry a))) m t = rw g at f in
    rw b (append-adds whole e h))

-- append after recovery succeeds exactly if there is room: it is refused with number 9 where the rest is shorter than the entry, else granted
pub append-after-recovery : (k : ℕ) {p q a w t : List ℕ} {r : Outcome} {l : List (List ℕ)} → Recovered p (outcome 0) q → Content q l t → 0 < length a
    → AppendCut k q a r w → r ≡ pick (ltb (length t) (length (entry a))) (outcome 9) (outcome 0)
append-after-recovery k {p} {q} {a} {w} {t} {r} c d some e =
    let f : Fine p = recovered-fine (λ ss. ss) p q c in
    let u : q ≡ kept p = (fine-recovered p f c).1 in
    let z : zeros t ≡ true = (recovery-keeps c (content-walk p) d).1 in
    let n : e.rest ≡ t = (content-only e.content d).1 in
    e.result ∙ ap (λ (s : List ℕ). outcome_of (append_verdict q s a)) n ∙ clean-verdict q a t (rw u (kept_fine p f)) some z
