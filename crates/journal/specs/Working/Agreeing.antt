-- Pages that agree before a place have the same entries there. Assumes nothing.
use Rattle.std.specs.Prelude.{◌≡◌, refl, true, false, List, [], ◌∷◌, ℕ, zero, suc, ◌+◌, ◌-◌, ◌*◌, ◌<◌, ◌≤◌, eqb, length, get_or, take, drop}
use Rattle.std.proofs.Common.{sym, ap, ◌∙◌, arith, length-take, length-drop, ext_get_or, get_or-take, get_or-drop, eqb-true}
use Rattle.text.specs.Choice.{split, clash}
use Rattle.text.specs.All.{all}
use Rattle.text.specs.Counted.{part, pair_at}
use Rattle.journal.specs.Page.{zeros}
use Rattle.journal.specs.Working.Walk.{finished_at, entries, end_at}
use Rattle.journal.specs.Working.Walks.{unfinished, Walk, w[], w∷, walk-le, walk-in, stops-in, walk_is}

-- two pages of one length that agree before a place
pub record Agree (p q : List ℕ) (e : ℕ) : Type 0 where
  pub long : length q ≡ length p
  pub same : (i : ℕ) → i < e → get_or q i 0 ≡ get_or p i 0

pub agree-pair : (p q : List ℕ) (e at : ℕ) → Agree p q e → at + 1 < e → pair_at q at ≡ pair_at p at
unfolding pair_at
agree-pair p q e at g h =
    let a : at < e = omega arith in rw (g.same at a, g.same (at + 1) h) refl

agree-part : (p q : List ℕ) (e at n : ℕ) → Agree p q e → at + n ≤ e → part q at n ≡ part p at n
unfolding part
agree-part p q e at n g h =
    let l : length (take n (drop at q)) ≡ length (take n (drop at p)) = simp (length-take, length-drop, g.long) in
    ext_get_or 0 (take n (drop at q)) (take n (drop at p)) l
    (λ i b. let c : i < n = omega (arith, length-take n (drop at q)) in
    let d : at + i < e = omega arith in
    rw (get_or-take n (drop at q) i 0 c, get_or-take n (drop at p) i 0 c, get_or-drop at q i 0, get_or-drop at p i 0) (g.same (at + i) d))

-- a walk before a place is a walk on both
pub walk-agree : {p q : List ℕ} {at e : ℕ} {l : List (List ℕ)} → Walk p at l e → Agree p q e → Walk q at l e
walk-agree w[] g = w[]
walk-agree {p} {q} {at} {e} (w∷ {x = z} {l = u} f x w) g =
    let b : at + pair_at p at + 3 ≤ e = walk-le w in
    let s : pair_at q at ≡ pair_at p at = agree-pair p q e at g (omega arith) in
    let a : 0 < pair_at q at = rw s f.above in
    let i : at + pair_at q at + 3 ≤ length q = rw (s, g.long) f.within in
    let c : get_or q (at + pair_at q at + 2) 0 ≡ 1 = rw s (g.same (at + pair_at p at + 2) (omega arith) ∙ f.closed) in
    let y : part q (at + 2) (pair_at q at) ≡ z = (rw s (agree-part p q e (at + 2) (pair_at p at) g (omega arith))) ∙ x in
    w∷ {e = e} {x = z} {l = u} (record { above = a; within = i; closed = c }) y (rw s (walk-agree w g))

-- the definitions' walk from the front
pub front : (p : List ℕ) → Walk p 1 (entries p) (end_at p 1)
unfolding entries end_at
front p = walk-in (length p - 1) p 1

pub front-stops : (p : List ℕ) → finished_at p (end_at p 1) ≡ false
unfolding end_at
front-stops p = stops-in (length p - 1) p 1 (omega arith)

pub front-is : {p : List ℕ} {e : ℕ} {l : List (List ℕ)} → Walk p 1 l e → finished_at p e ≡ false → (entries p ≡ l) × (end_at p 1 ≡ e)
unfolding entries end_at
front-is {p} w s = walk_is w s (length p - 1) (omega arith)

-- zeros
pub zeros-each : (s : List ℕ) → zeros s ≡ true → (i : ℕ) → get_or s i 0 ≡ 0
unfolding zeros all
zeros-each [] h i = refl
zeros-each (b ∷ s) h zero = split (eqb b 0) (λ e. eqb-true b 0 e) (λ e. clash (rw e at h) refl)
zeros-each (b ∷ s) h (suc i) = split (eqb b 0) (λ e. zeros-each s (rw e at h) i) (λ e. clash (rw e at h) refl)

pub zeros-from : (p : List ℕ) (at : ℕ) → zeros (drop at p) ≡ true → (i : ℕ) → at ≤ i → get_or p i 0 ≡ 0
zeros-from p at h i l =
    let s : i ≡ at + (i - at) = omega arith in ap (λ (k : ℕ). get_or p k 0) s ∙ sym (get_or-drop at p (i - at) 0) ∙ zeros-each (drop at p) h (i - at)

-- no finished entry stands where only zeros do
pub zeros-unfinished : (p : List ℕ) (at : ℕ) → ((i : ℕ) → at ≤ i → get_or p i 0 ≡ 0) → finished_at p at ≡ false
unfolding pair_at
zeros-unfinished p at z =
    unfinished p at (λ f. let a : 0 < get_or p at 0 * 256 + get_or p (at + 1) 0 = f.above in
    let no : ⊥ = omega (arith, z at (omega arith), z (at + 1) (omega arith)) in no)
