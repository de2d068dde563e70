-- The matcher answers yes exactly where a match is found. Assumes nothing.
use Rattle.std.specs.Prelude.{◌≡◌, refl, Bool, true, List, ltb, leb, get_or}
use Rattle.std.proofs.Common.{sym, ◌∙◌, subst, ⊎_elim, arith, add-one, le_refl}
use Rattle.std.proofs.Math.Bool.{false}
use Prim.Native.Nat.{ℕ, zero, suc, ◌+◌, ◌-◌, ◌<◌, ◌≤◌}
use Rattle.std.proofs.Math.Dec.{eqb}
use Rattle.std.proofs.Math.ListN.{length}
use borrow.Author.Tests.{eq-eqb, ltb-true, ltb-false, leb-true, leb-false, eqb-true, eqb-false}
use Rattle.text.specs.Choice.{clash, split}
use Rattle.pattern.specs.Working.Logic.{or_cases, or_left, or_right, and_left, and_right, and_both}
use Rattle.pattern.specs.Tree.{Re, bol, eol, one, cat, alt, star, plus, opt}
use Rattle.pattern.specs.Match.{Found}
use Rattle.pattern.specs.Working.Sets.{nul, first, last, follow, Fits}
use Rattle.pattern.specs.Working.Run.{Run, begin, next, starts, ends, Done, d-empty, d-run, inside-start, inside-end, run-less, run_inside, complete}
use Rattle.pattern.specs.Working.Sound.{run_in, empty-sound, sound}
use Rattle.pattern.specs.Working.Places.{row}
use Rattle.pattern.specs.Working.Scan.{accepts_at}
use Rattle.pattern.specs.Working.Sim.{step_at, chosen, run_from, runs, way-run-end, way-run-hit, way-run-more, way-runs-empty, way-runs-start, way-runs-end, way-runs-from}
use Rattle.pattern.specs.Working.Bits.{has}
use Rattle.pattern.specs.Working.Meaning.{part_of, nb-is, ns-is, ne-is, fs-is, fm-is, lm-is, le_is}
use Rattle.pattern.specs.Working.Sweep.{Passed, next-sound, next-first, next-follows, hit-sound, hit-shows}
use Rattle.pattern.specs.declared.places.Places.{Places}
use Rattle.pattern.specs.declared.run.Swept.{Swept}

nul-mono : (r : Re) → nul false false r ≡ true → nul true false r ≡ true
unfolding nul
nul-mono bol e = refl
nul-mono eol e = e
nul-mono (one q c) e = e
nul-mono (cat a b) e = and_both _ _ (nul-mono a (and_left _ _ e)) (nul-mono b (and_right (nul false false a) _ e))
nul-mono (alt a b) e = ⊎_elim (λ h. or_left _ _ (nul-mono a h)) (λ h. or_right (nul true false a) _ (nul-mono b h)) (or_cases _ _ e)
nul-mono (star a) e = refl
nul-mono (plus a) e = nul-mono a e
nul-mono (opt a) e = refl

ends_at : (s : List ℕ) (i : ℕ) → i ≡ length s → ends s i ≡ true
unfolding ends
ends_at s i e = eq-eqb i (length s) e

no-empty : (r : Re) (s : List ℕ) (i : ℕ) → (length s ≡ 0 → ⊥) → nul (starts i) (ends s i) r ≡ true → nul true false r ≡ false → nul false true r ≡ false → ⊥
unfolding starts ends
no-empty r s i z n g k = split (eqb i 0)
    (λ o. split (eqb i (length s)) (λ f. z (omega (arith, eqb-true i 0 o, eqb-true i (length s) f))) (λ f. clash (rw (o, f) at n) g))
    (λ o. split (eqb i (length s)) (λ f. clash (rw (o, f) at n) k) (λ f. clash (nul-mono r (rw (o, f) at n)) g))

starts-zero : starts 0 ≡ true
unfolding starts
starts-zero = refl

module _ (p s : List ℕ) (r : Re) (lo hi : ℕ) (fits : Fits (accepts_at p) lo hi r) (small : hi ≤ 256) (T : List ℕ)
    (rows : (q k : ℕ) → q < 256 → k < 256 → has (row T q) k ≡ follow r q k) where
  -- the places that can be passed by the byte at i
  data Cand (i k : ℕ) : Type 0 where
    c-first : first (starts i) (ends s i) r k ≡ true → Cand i k
    c-next : (h q : ℕ) → Run (accepts_at p) s r h q i → follow r q k ≡ true → Cand i k

  record Good (i : ℕ) (at : Places) : Type 0 where
    pub only : (k : ℕ) → k < 256 → has at k ≡ true → Cand i k
    pub all : (k : ℕ) → k < 256 → Cand i k → has at k ≡ true

  below : {h q i : ℕ} → Run (accepts_at p) s r h q i → q < 256
  below u = let b = run_in (accepts_at p) s fits u in omega (arith, b.high)

  record Came (q i : ℕ) : Type 0 where
    pub from : ℕ
    pub run : Run (accepts_at p) s r from q i

  came : (i q : ℕ) → i < length s → Cand i q → accepts_at p q (get_or s i 0) ≡ true → Came q (suc i)
  came i q h (c-first f) a = record { from = i; run = begin f h a refl }
  came i q h (c-next g o u f) a = record { from = g; run = next u f h a refl }

  record Was (i q : ℕ) : Type 0 where
    pub cand : Cand i q
    pub accepted : accepts_at p q (get_or s i 0) ≡ true

  was : (i : ℕ) {h q j : ℕ} → j ≡ suc i → Run (accepts_at p) s r h q j → Was i q
  was i {h} e (begin {q = q} f l o z) = let y : h ≡ i = omega arith in
      record { cand = c-first (subst (λ (m : ℕ). first (starts m) (ends s m) r q ≡ true) y f); accepted = subst (λ (m : ℕ). accepts_at p q (get_or s m 0) ≡ true) y o }
  was i {h} e (next {p = o'} {j = j} {q = q} u f l o z) = let y : j ≡ i = omega arith in
      record { cand = c-next h o' (subst (λ (m : ℕ). Run (accepts_at p) s r h o' m) y u) f; accepted = subst (λ (m : ℕ). accepts_at p q (get_or s m 0) ≡ true) y o }

  abbrev lasts : ℕ → Places
  lasts i = chosen (eqb (i + 1) (length s)) (part_of r).le (part_of r).lm

  lasts-is : (i q : ℕ) → i < length s → q < 256 → has (lasts i) q ≡ last (starts (suc i)) (ends s (suc i)) r q
  unfolding chosen
  lasts-is i q h l = split (eqb (i + 1) (length s))
      (λ e. rw (e, inside-start (suc i) i (omega arith), ends_at s (suc i) (omega (arith, eqb-true (i + 1) (length s) e))) (le_is fits small q l))
      (λ e. rw (e, inside-start (suc i) i (omega arith), inside-end s (suc i) (inner e)) (lm-is fits small q l))
    where
      inner : eqb (i + 1) (length s) ≡ false → suc i < length s
      inner e = split (ltb (suc i) (length s)) (λ f. ltb-true _ _ f) (λ f. absurd (eqb-false (i + 1) (length s) e (omega (arith, ltb-false (suc i) (length s) f))))

  -- a run that may end at j
  record Ending (j : ℕ) : Type 0 where
    pub from : ℕ
    pub place : ℕ
    pub run : Run (accepts_at p) s r from place j
    pub final : last (starts j) (ends s j) r place ≡ true

  module _ (i : ℕ) (at : Places) (h : i < length s) (good : Good i at) where
    abbrev stepped : Swept
    stepped = step_at p T at (lasts i) (part_of r).fm (get_or s i 0)

    passed-came : {W : ℕ → Bool} (x : Passed p (get_or s i 0) at W) → Came x.place (suc i)
    passed-came x = came i x.place h (good.only x.place x.below x.here) x.accepted

    hit-ending : eqb stepped.hit 1 ≡ true → Ending (suc i)
    hit-ending e =
        let x = hit-sound p T at (lasts i) (part_of r).fm (get_or s i 0) e in
        let y = passed-came x in
        record { from = y.from; place = x.place; run = y.run; final = sym (lasts-is i x.place h x.below) ∙ x.shown }

    ending-hit : Ending (suc i) → eqb stepped.hit 1 ≡ true
    ending-hit x =
        let w = was i refl x.run in let b = below x.run in
        hit-shows p T at (lasts i) (part_of r).fm (get_or s i 0)
        (record { place = x.place; below = b; here = good.all x.place b w.cand; accepted = w.accepted; shown = lasts-is i x.place h b ∙ x.final })

    first-mid : (k : ℕ) → k < 256 → suc i < length s → has (part_of r).fm k ≡ first (starts (suc i)) (ends s (suc i)) r k
    first-mid k l m = rw (inside-start (suc i) i (omega arith), inside-end s (suc i) m) (fm-is fits small k l)

    next-all : (k : ℕ) → k < 256 → suc i < length s → Cand (suc i) k → has stepped.places k ≡ true
    next-all k l m (c-first f) = next-first p T at (lasts i) (part_of r).fm (get_or s i 0) k (first-mid k l m ∙ f)
    next-all k l m (c-next g q u f) =
        let w = was i refl u in let b = below u in
        next-follows p T at (lasts i) (part_of r).fm (get_or s i 0) k
        (record { place = q; below = b; here = good.all q b w.cand; accepted = w.accepted; shown = rows q k b l ∙ f })

    good-next : suc i < length s → Good (suc i) stepped.places
    good-next m = record {
      only = λ k l e. ⊎_elim (λ f. c-first (sym (first-mid k l m) ∙ f))
          (λ x. let y = passed-came x in c-next y.from x.place y.run (sym (rows x.place k x.below l) ∙ x.shown))
          (next-sound p T at (lasts i) (part_of r).fm (get_or s i 0) k e);
      all = λ k l x. next-all k l m x;
    }

  abbrev from_here : ℕ → Places → Bool
  from_here i at = run_from p s T (part_of r).fm (part_of r).lm (part_of r).le i at

  record Later (i : ℕ) : Type 0 where
    pub to : ℕ
    pub after : i < to
    pub ending : Ending to

  run_sound : (n i : ℕ) (at : Places) → length s - i ≤ n → (i < length s → Good i at) → from_here i at ≡ true → Later i
  run_sound zero i at h g e = clash e (sym (way-run-end p s T (part_of r).fm (part_of r).lm (part_of r).le i at _ refl (omega arith)))
  run_sound (suc n) i at h g e = split (leb (length s) i)
      (λ f. clash e (sym (way-run-end p s T (part_of r).fm (part_of r).lm (part_of r).le i at _ refl (leb-true _ _ f))))
      (λ f. let l = leb-false (length s) i f in
      split (eqb (step_at p T at (lasts i) (part_of r).fm (get_or s i 0)).hit 1)
      (λ y. record { to = suc i; after = le_refl (suc i); ending = hit-ending i at l (g l) y })
      (λ y. let z = run_sound n (suc i) (step_at p T at (lasts i) (part_of r).fm (get_or s i 0)).places (omega arith) (λ m. good-next i at l (g l) m)
      (subst (λ (m : ℕ). from_here m (step_at p T at (lasts i) (part_of r).fm (get_or s i 0)).places ≡ true) (add-one i)
      (way-run-more p s T (part_of r).fm (part_of r).lm (part_of r).le i at _ refl l (lasts i) refl (step_at p T at (lasts i) (part_of r).fm (get_or s i 0)) refl (eqb-false _ _ y) ∙ e)) in
      record { to = z.to; after = omega (arith, z.after); ending = z.ending }))

  run-shows : (n i : ℕ) (at : Places) → length s - i ≤ n → (i < length s → Good i at) → Later i → from_here i at ≡ true
  run-shows zero i at h g x = absurd (omega (arith, x.after, run_inside x.ending.run))
  run-shows (suc n) i at h g x = split (leb (length s) i)
      (λ f. absurd (omega (arith, leb-true (length s) i f, x.after, run_inside x.ending.run)))
      (λ f. let l = leb-false (length s) i f in
      split (eqb (step_at p T at (lasts i) (part_of r).fm (get_or s i 0)).hit 1)
      (λ y. sym (way-run-hit p s T (part_of r).fm (part_of r).lm (part_of r).le i at _ refl l (lasts i) refl (step_at p T at (lasts i) (part_of r).fm (get_or s i 0)) refl (eqb-true _ _ y)))
      (λ y. sym (way-run-more p s T (part_of r).fm (part_of r).lm (part_of r).le i at _ refl l (lasts i) refl (step_at p T at (lasts i) (part_of r).fm (get_or s i 0)) refl (eqb-false _ _ y))
      ∙ subst (λ (m : ℕ). from_here m (step_at p T at (lasts i) (part_of r).fm (get_or s i 0)).places ≡ true) (sym (add-one i))
      (run-shows n (suc i) (step_at p T at (lasts i) (part_of r).fm (get_or s i 0)).places (omega arith) (λ m. good-next i at l (g l) m)
      (record { to = x.to; after = beyond i at l (g l) y x; ending = x.ending }))))
    where
      beyond : (i : ℕ) (at : Places) (l : i < length s) (g : Good i at) → eqb (step_at p T at (lasts i) (part_of r).fm (get_or s i 0)).hit 1 ≡ false → (x : Later i) → suc i < x.to
      beyond i at l g y x = split (eqb (suc i) x.to)
          (λ e. clash (ending-hit i at l g (subst Ending (sym (eqb-true (suc i) x.to e)) x.ending)) y)
          (λ e. let n = eqb-false (suc i) x.to e in split (ltb (suc i) x.to) (λ f. ltb-true _ _ f) (λ f. absurd (n (omega (arith, x.after, ltb-false (suc i) x.to f)))))

  good-first : 0 < length s → Good 0 (part_of r).fs
  good-first h = record {
    only = λ k l e. c-first (rw (starts-zero, inside-end s 0 h) (sym (fs-is fits small k l) ∙ e));
    all = λ k l x. start k l x;
  }
    where
      start : (k : ℕ) → k < 256 → Cand 0 k → has (part_of r).fs k ≡ true
      start k l (c-first f) = fs-is fits small k l ∙ (rw (starts-zero, inside-end s 0 h) at f)
      start k l (c-next g q u f) = absurd (omega (arith, run-less u))

  pub runs-sound : runs p s T (part_of r) ≡ true → Found s r
  runs-sound e = split (eqb (length s) 0)
      (λ f. let z = eqb-true (length s) 0 f in
      let n : nul (starts 0) (ends s 0) r ≡ true = rw (starts-zero, ends_at s 0 (sym z)) (sym (nb-is r) ∙ way-runs-empty p s T (part_of r) z ∙ e) in
      record { from = 0; to = 0; inside = omega arith; matched = empty-sound (accepts_at p) s r 0 n })
      (λ f. let z = eqb-false (length s) 0 f in let pos : 0 < length s = positive (length s) z in
      split (part_of r).ns
      (λ g. let n : nul (starts 0) (ends s 0) r ≡ true = rw (starts-zero, inside-end s 0 pos) (sym (ns-is r) ∙ g) in
      record { from = 0; to = 0; inside = omega arith; matched = empty-sound (accepts_at p) s r 0 n })
      (λ g. split (part_of r).ne
      (λ k. let n : nul (starts (length s)) (ends s (length s)) r ≡ true = rw (inside-start (length s) 0 pos, ends_at s (length s) refl) (sym (ne-is r) ∙ k) in
      record { from = length s; to = length s; inside = le_refl (length s); matched = empty-sound (accepts_at p) s r (length s) n })
      (λ k. let x = run_sound (length s) 0 (part_of r).fs (omega arith) (λ m. good-first m) (way-runs-from p s T (part_of r) z g k _ refl ∙ e) in
      let y = x.ending in
      record { from = y.from; to = x.to; inside = omega (arith, run-less y.run, run_inside y.run); matched = sound (accepts_at p) s fits y.from y.place x.to y.run y.final })))
    where
      positive : (n : ℕ) → (n ≡ 0 → ⊥) → 0 < n
      positive zero z = absurd (z refl)
      positive (suc n) z = omega arith

  pub runs-shows : Found s r → runs p s T (part_of r) ≡ true
  runs-shows x = split (eqb (length s) 0)
      (λ f. let z = eqb-true (length s) 0 f in sym (way-runs-empty p s T (part_of r) z) ∙ nb-is r ∙ bare z (complete fits x.matched) x.inside)
      (λ f. let z = eqb-false (length s) 0 f in
      split (part_of r).ns
      (λ g. sym (way-runs-start p s T (part_of r) z g))
      (λ g. split (part_of r).ne
      (λ k. sym (way-runs-end p s T (part_of r) z g k))
      (λ k. sym (way-runs-from p s T (part_of r) z g k _ refl) ∙ run-shows (length s) 0 (part_of r).fs (omega arith) (λ m. good-first m) (long z g k x.inside (complete fits x.matched)))))
    where
      bare : {i j : ℕ} → length s ≡ 0 → Done (accepts_at p) s r i j → i ≤ length s → nul true true r ≡ true
      bare {i} z (d-empty e n) h = let y : i ≡ 0 = omega arith in
          let n₀ : nul (starts 0) (ends s 0) r ≡ true = subst (λ (m : ℕ). nul (starts m) (ends s m) r ≡ true) y n in rw (starts-zero, ends_at s 0 (sym z)) at n₀
      bare z (d-run q u l) h = absurd (omega (arith, run-less u, run_inside u))

      long : {i j : ℕ} → (length s ≡ 0 → ⊥) → (part_of r).ns ≡ false → (part_of r).ne ≡ false → i ≤ length s → Done (accepts_at p) s r i j → Later 0
      long {i} {j} z g k h (d-empty e n) = absurd (no-empty r s i z n (sym (ns-is r) ∙ g) (sym (ne-is r) ∙ k))
      long {i} {j} z g k h (d-run q u l) = record { to = j; after = omega (arith, run-less u); ending = record { from = i; place = q; run = u; final = l } }
