-- A medium that keeps no order between two barriers: of the stores between them any may have reached it when the power fails. Two barriers within
-- an append, behind the length and behind the answer, and one within recovery, before the last two stores, are enough. Assumes nothing.
use Rattle.std.specs.Prelude.{◌≡◌, refl, false, List, ◌∷◌, ℕ, zero, suc, ◌+◌, ◌-◌, ◌<◌, ◌≤◌, length, set, take, drop, eqb}
use Rattle.std.proofs.Common.{sym, ap, ◌∙◌, arith, get_or-set_other, eqb-true}
use Rattle.std.proofs.Math.ListN.{get_or}
use Rattle.std.proofs.lemmas.Bool.{eqb-false}
use Rattle.text.specs.Choice.{split, clash}
use Rattle.text.specs.Counted.{pair_at}
use Rattle.journal.specs.Page.{least_page, closing, Content, size_bytes, entry}
use Rattle.journal.specs.Stores.{Store, stored, placed, cleared, SomeOf, s[], made, lost}
use Rattle.journal.specs.Journal.{outcome, appending, clearing, Appended, Recovered}
use Rattle.journal.specs.Working.Walk.{finished_at, end_at, rest_of}
use Rattle.journal.specs.Working.Walks.{facts-finished, unfinished}
use Rattle.journal.specs.Working.Rooms.{Fine, Roomy}
use Rattle.journal.proofs.Working.Requests.{appending-is}
use Rattle.journal.specs.Working.Ways.{end-within}
use Rattle.journal.specs.Working.Agreeing.{Agree, agree-pair, walk-agree, front, front-stops, front-is}
use Rattle.journal.specs.Working.Kept.{kept, kept_cut}
use Rattle.journal.proofs.Working.Kept.{cut-long, cut_low, cut_high, kept_same, clean-kept}
use Rattle.journal.specs.Working.Written.{Granted, granted-at, written_cut}
use Rattle.journal.proofs.Working.Written.{write-long, write_low, write-high, write-pair}
use Rattle.journal.specs.Theorems.Content.{content-is}
use Rattle.journal.proofs.Theorems.Determined.{appended-page}
use Rattle.journal.specs.Theorems.PowerCut.{fine-too, end_after, fine-recovered, recovered-fine}
use Rattle.journal.specs.declared.Outcome.{Outcome}
use Rattle.journal.specs.Theorems.Torn.{above, answer-stores, below, cut-stored, length-stores, placed-before, placed-behind, rest-clears, some-long, zero-stored}

cleared-before : {p q : List ℕ} (n at : ℕ) → SomeOf p (cleared n at) q → (i : ℕ) → i < at → get_or q i 0 ≡ get_or p i 0
unfolding cleared
cleared-before {p = p} zero at s[] i h = refl
cleared-before {p = p} (suc n) at (made w) i h = cleared-before {p = set p (at + n) 0} n at w i h ∙ get_or-set_other p (at + n) i 0 0 (below i (at + n) (omega arith))
cleared-before {p = p} (suc n) at (lost w) i h = cleared-before {p = p} n at w i h

cleared-behind : {p q : List ℕ} (n at : ℕ) → SomeOf p (cleared n at) q → (i : ℕ) → at + n ≤ i → get_or q i 0 ≡ get_or p i 0
unfolding cleared
cleared-behind {p = p} zero at s[] i h = refl
cleared-behind {p = p} (suc n) at (made w) i h = cleared-behind {p = set p (at + n) 0} n at w i (omega arith) ∙ get_or-set_other p (at + n) i 0 0 (above i (at + n) (omega arith))
cleared-behind {p = p} (suc n) at (lost w) i h = cleared-behind {p = p} n at w i (omega arith)

-- no closing byte comes to be
cleared-closing : {p q : List ℕ} (n at : ℕ) → SomeOf p (cleared n at) q → (i : ℕ) → get_or q i 0 ≡ closing → get_or p i 0 ≡ closing
unfolding cleared
cleared-closing {p = p} zero at s[] i h = h
cleared-closing {p = p} (suc n) at (made w) i h =
    let k : get_or (set p (at + n) 0) i 0 ≡ closing = cleared-closing {p = set p (at + n) 0} n at w i h in
    split (eqb i (at + n))
    (λ e. let s : i ≡ at + n = eqb-true i (at + n) e in
    let z : get_or (set p (at + n) 0) i 0 ≡ 0 = ap (λ (j : ℕ). get_or (set p (at + n) 0) j 0) s ∙ zero-stored p (at + n) in
    let no : ⊥ = omega (arith, k, z) in absurd no)
    (λ e. sym (get_or-set_other p (at + n) i 0 0 (eqb-false i (at + n) e)) ∙ k)
cleared-closing {p = p} (suc n) at (lost w) i h = cleared-closing {p = p} n at w i h

-- ---- pages that recovery takes for the same

-- a page of the same length that agrees before the end of the finished entries, where no finished entry stands
module _ (p q : List ℕ) (f : Fine p) (g : Agree p q (end_at p 1)) (n : finished_at q (end_at p 1) ≡ false) where
  same_kept : kept q ≡ kept p
  same_kept = kept_same p (omega (arith, f.least)) q g (front-is (walk-agree (front p) g) n).1

  same-fine : Fine q
  same-fine = fine-too p q f g.long (g.same 0 (end_after p))

  pub same-recovered : {r : Outcome} {x : List ℕ} → Recovered q r x → (r ≡ outcome 0) × (x ≡ kept p)
  same-recovered c = let u = fine-recovered q same-fine c in (u.0, u.1 ∙ same_kept)

-- ---- appending

module _ (p a : List ℕ) (y : Roomy p a) where
  g : Granted p a (end_at p 1)
  g = granted-at p a y

  clean : kept p ≡ p
  clean = clean-kept p (omega (arith, y.fine.least)) (λ i l. g.clear i l)

  -- some of the length's stores
  module _ (q : List ℕ) (w : SomeOf p (placed (end_at p 1) (size_bytes a)) q) where
    length-agrees : Agree p q (end_at p 1)
    length-agrees = record { long = some-long w; same = λ i h. placed-before (end_at p 1) (size_bytes a) w i h }

    length-open : finished_at q (end_at p 1) ≡ false
    length-open =
        unfinished q (end_at p 1) (λ f.
        let u : 0 < pair_at q (end_at p 1) = f.above in
        let z : get_or q (end_at p 1 + pair_at q (end_at p 1) + 2) 0 ≡ 0
        = placed-behind (end_at p 1) (size_bytes a) w (end_at p 1 + pair_at q (end_at p 1) + 2) (omega arith)
        ∙ g.clear (end_at p 1 + pair_at q (end_at p 1) + 2) (omega arith) in
        omega (arith, z, f.closed))

  -- the length's stores, and some of the answer's
  module _ (q : List ℕ) (w : SomeOf (written_cut 2 p (end_at p 1) a) (placed (end_at p 1 + 2) a) q) where
    answer-agrees : Agree p q (end_at p 1)
    answer-agrees =
        record {
          long = some-long w ∙ write-long p a (end_at p 1) g 2;
          same = λ i h. placed-before (end_at p 1 + 2) a w i (omega arith) ∙ write_low p a (end_at p 1) g 2 i h;
        }

    answer-size : pair_at q (end_at p 1) ≡ length a
    unfolding pair_at
    answer-size =
        let u : get_or q (end_at p 1) 0 ≡ get_or (written_cut 2 p (end_at p 1) a) (end_at p 1) 0
        = placed-before (end_at p 1 + 2) a w (end_at p 1) (omega arith) in
        let v : get_or q (end_at p 1 + 1) 0 ≡ get_or (written_cut 2 p (end_at p 1) a) (end_at p 1 + 1) 0
        = placed-before (end_at p 1 + 2) a w (end_at p 1 + 1) (omega arith) in
        rw (u, v) (write-pair p a (end_at p 1) g 2 (omega arith))

    answer-open : finished_at q (end_at p 1) ≡ false
    answer-open =
        unfinished q (end_at p 1) (λ f.
        let s : pair_at q (end_at p 1) ≡ length a = answer-size in
        let c : get_or q (end_at p 1 + length a + 2) 0 ≡ closing = rw s at f.closed in
        let z : get_or q (end_at p 1 + length a + 2) 0 ≡ 0
        = placed-behind (end_at p 1 + 2) a w (end_at p 1 + length a + 2) (omega arith)
        ∙ write-high p a (end_at p 1) g 2 (end_at p 1 + length a + 2) (omega (arith, g.some)) in
        omega (arith, z, c))

rest-stores : (p a s : List ℕ) → s ≡ rest_of p → least_page ≤ length p → appending p s a ≡ placed (end_at p 1) (entry a)
rest-stores p a s e h = rw e (appending-is p a h)

-- the power fails before the barrier behind the length: recovery gives the page before
pub torn-length : {p a w q x s : List ℕ} {l : List (List ℕ)} {r : Outcome} → Appended p a (outcome 0) w → Content p l s
    → SomeOf p (take 2 (appending p s a)) q → Recovered q r x → (r ≡ outcome 0) × (x ≡ p)
torn-length {p} {a} {w} {q} {x} {s} c d t v =
    let y : Roomy p a = (appended-page (λ ss. ss) p a w c).0 in
    let m : appending p s a ≡ placed (end_at p 1) (entry a) = rest-stores p a s (content-is p d).1 y.fine.least in
    let u : SomeOf p (placed (end_at p 1) (size_bytes a)) q = rw (m, length-stores p a) at t in
    let z = same-recovered p q y.fine (length-agrees p a y q u) (length-open p a y q u) v in
    (z.0, z.1 ∙ clean p a y)

-- before the barrier behind the answer: the same
pub torn-answer : {p a w q x s : List ℕ} {l : List (List ℕ)} {r : Outcome} → Appended p a (outcome 0) w → Content p l s
    → SomeOf (stored p (take 2 (appending p s a))) (take (length a) (drop 2 (appending p s a))) q → Recovered q r x → (r ≡ outcome 0) × (x ≡ p)
unfolding written_cut
torn-answer {p} {a} {w} {q} {x} {s} c d t v =
    let y : Roomy p a = (appended-page (λ ss. ss) p a w c).0 in
    let m : appending p s a ≡ placed (end_at p 1) (entry a) = rest-stores p a s (content-is p d).1 y.fine.least in
    let u : SomeOf (written_cut 2 p (end_at p 1) a) (placed (end_at p 1 + 2) a) q = rw (m, answer-stores p a) at t in
    let z = same-recovered p q y.fine (answer-agrees p a y q u) (answer-open p a y q u) v in
    (z.0, z.1 ∙ clean p a y)

-- ---- recovery

cleared-take : (k n at : ℕ) → k ≤ n → take k (cleared n at) ≡ cleared k (at + (n - k))
unfolding cleared
cleared-take zero n at h = refl
cleared-take (suc k) zero at h = let no : ⊥ = omega arith in absurd no
cleared-take (suc k) (suc n) at h =
    let s : suc n - suc k ≡ n - k = omega arith in
    let i : at + (n - k) + k ≡ at + n = omega arith in
    rw (s, i) (ap {B = List Store} (λ r. (at + n, 0) ∷ r) (cleared-take k n at (omega arith)))

cleared-drop : (k n at : ℕ) → k ≤ n → drop k (cleared n at) ≡ cleared (n - k) at
unfolding cleared
cleared-drop zero n at h = let s : n - zero ≡ n = omega arith in rw s refl
cleared-drop (suc k) zero at h = let no : ⊥ = omega arith in absurd no
cleared-drop (suc k) (suc n) at h = let s : suc n - suc k ≡ n - k = omega arith in rw s (cleared-drop k n at (omega arith))

module _ (p : List ℕ) (f : Fine p) (n : ℕ) (ne : n ≡ length p - end_at p 1) where
  one : 1 ≤ length p
  one = omega (arith, f.least)

  -- some of the stores, but not of the last two
  module _ (q : List ℕ) (w : SomeOf p (cleared (n - 2) (end_at p 1 + (n - (n - 2)))) q) where
    most-agrees : Agree p q (end_at p 1)
    most-agrees = record { long = some-long w; same = λ i h. cleared-before (n - 2) (end_at p 1 + (n - (n - 2))) w i (omega arith) }

    most-open : finished_at q (end_at p 1) ≡ false
    most-open =
        unfinished q (end_at p 1) (λ g.
        let v : end_at p 1 + pair_at q (end_at p 1) + 3 ≤ length q = g.within in
        let u : 0 < pair_at q (end_at p 1) = g.above in
        let l : length q ≡ length p = some-long w in
        let m : Agree p q (end_at p 1 + 2)
        = record { long = some-long w; same = λ i h. cleared-before (n - 2) (end_at p 1 + (n - (n - 2))) w i (omega arith) } in
        let s : pair_at q (end_at p 1) ≡ pair_at p (end_at p 1) = agree-pair p q (end_at p 1 + 2) (end_at p 1) m (omega arith) in
        let a : 0 < pair_at p (end_at p 1) = omega arith in
        let b : end_at p 1 + pair_at p (end_at p 1) + 3 ≤ length p = omega arith in
        let c : get_or q (end_at p 1 + pair_at p (end_at p 1) + 2) 0 ≡ closing = rw s at g.closed in
        let d : get_or p (end_at p 1 + pair_at p (end_at p 1) + 2) 0 ≡ 1
        = cleared-closing (n - 2) (end_at p 1 + (n - (n - 2))) w (end_at p 1 + pair_at p (end_at p 1) + 2) c in
        clash (facts-finished p (end_at p 1) (record { above = a; within = b; closed = d })) (front-stops p))

  -- all stores but the last two, and some of these
  module _ (q : List ℕ) (w : SomeOf (kept_cut (n - 2) p) (cleared (n - (n - 2)) (end_at p 1)) q) where
    few : n - 2 ≤ length p - end_at p 1
    few = omega arith

    last-agrees : Agree p q (end_at p 1)
    last-agrees =
        record {
          long = some-long w ∙ cut-long p one (n - 2) few;
          same = λ i h. cleared-before (n - (n - 2)) (end_at p 1) w i h ∙ cut_low p one (n - 2) few i (omega (arith, end-within p 1 one));
        }

    last-open : finished_at q (end_at p 1) ≡ false
    last-open =
        unfinished q (end_at p 1) (λ g.
        let u : 0 < pair_at q (end_at p 1) = g.above in
        let z : get_or q (end_at p 1 + pair_at q (end_at p 1) + 2) 0 ≡ 0
        = cleared-behind (n - (n - 2)) (end_at p 1) w (end_at p 1 + pair_at q (end_at p 1) + 2) (omega arith)
        ∙ cut_high p one (n - 2) few (end_at p 1 + pair_at q (end_at p 1) + 2) (omega (arith, end-within p 1 one)) in
        omega (arith, z, g.closed))

-- the power fails before the barrier within recovery: recovery ends with the same page
pub torn-clearing : {p q x y s : List ℕ} {l : List (List ℕ)} {r : Outcome} → Recovered p (outcome 0) x → Content p l s
    → SomeOf p (take (length s - 2) (clearing p s)) q → Recovered q r y → (r ≡ outcome 0) × (y ≡ x)
torn-clearing {p} {q} {x} {y} {s} c d t v =
    let f : Fine p = recovered-fine (λ ss. ss) p x c in
    let m = rest-clears p s (content-is p d).1 f.least in
    let u : SomeOf p (cleared (length s - 2) (end_at p 1 + (length s - (length s - 2)))) q
    = rw (m.1, cleared-take (length s - 2) (length s) (end_at p 1) (omega arith)) at t in
    let z = same-recovered p q f (most-agrees p f (length s) m.0 q u) (most-open p f (length s) m.0 q u) v in
    (z.0, z.1 ∙ sym (fine-recovered p f c).1)

-- behind it: the same
pub torn-end : {p q x y s : List ℕ} {l : List (List ℕ)} {r : Outcome} → Recovered p (outcome 0) x → Content p l s
    → SomeOf (stored p (take (length s - 2) (clearing p s))) (drop (length s - 2) (clearing p s)) q → Recovered q r y → (r ≡ outcome 0) × (y ≡ x)
torn-end {p} {q} {x} {y} {s} c d t v =
    let f : Fine p = recovered-fine (λ ss. ss) p x c in
    let m = rest-clears p s (content-is p d).1 f.least in
    let u : SomeOf (stored p (take (length s - 2) (cleared (length s) (end_at p 1)))) (cleared (length s - (length s - 2)) (end_at p 1)) q
    = rw (m.1, cleared-drop (length s - 2) (length s) (end_at p 1) (omega arith)) at t in
    let k : SomeOf (kept_cut (length s - 2) p) (cleared (length s - (length s - 2)) (end_at p 1)) q = rw (cut-stored p (length s - 2) (length s) m.0) at u in
    let z = same-recovered p q f (last-agrees p f (length s) m.0 q k) (last-open p f (length s) m.0 q k) v in
    (z.0, z.1 ∙ sym (fine-recovered p f c).1)
