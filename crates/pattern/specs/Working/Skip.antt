-- Bytes at which no match begins, and going past them. Assumes nothing.
use Rattle.std.proofs.Math.Path.{◌≡◌}
use Rattle.std.specs.Prelude.{refl, Bool, true, false, ◌&&◌, List, ℕ, zero, suc, ◌+◌, ◌-◌, ◌<◌, ◌≤◌, eqb, ltb, leb, length, get_or, set, max}
use Rattle.std.proofs.Common.{sym, ap, ◌∙◌, arith, get_or-set_same}
use Rattle.std.proofs.Math.Nat.{le_refl}
use Rattle.std.proofs.Math.Seq.{get_or-set_other}
use borrow.Author.Tests.{lt-ltb, le-leb, lt-leb, eq-eqb, ne_eqb, ltb-true, eqb-true, eqb-false, leb-true, leb-false}
use Rattle.text.specs.Choice.{pick, split, clash}
use Rattle.text.specs.Loop.{Step, next, done, loop, loop-next, loop-done}
use Rattle.pattern.specs.Working.Sim.{swept, step_at, chosen, run_from, way-run-end, way-run-hit, way-run-more}
use Rattle.pattern.specs.declared.places.Places.{Places}
use Rattle.pattern.specs.declared.run.Swept.{Swept}

-- two sets are the same
unfoldable pub same_places : Places → Places → Bool
same_places x y = eqb x.a y.a && (eqb x.b y.b && (eqb x.c y.c && eqb x.d y.d))

-- nothing has come or ended: the set is the one at which a match begins
unfoldable pub idle : Swept → Places → Bool
idle x fm = pick (eqb x.hit 0) (same_places x.places fm) false

-- the byte c is marked in the table
unfoldable pub marked : List Bool → ℕ → Bool
marked m c = pick (ltb c 256) (get_or m c false) false

-- past marked bytes, at most to the last
abbrev pub skip_turn : List Bool → List ℕ → ℕ → Step ℕ ℕ
skip_turn m s i = pick (leb (length s) (i + 1)) (done i) (pick (marked m (get_or s i 0)) (next (i + 1)) (done i))

unfoldable pub skipped : List Bool → List ℕ → ℕ → ℕ
skipped m s i = loop (λ x. length s - x) (λ x. x) (skip_turn m s) i

unfoldable pub skip_from : List Bool → List ℕ → ℕ → Places → Places → ℕ
skip_from m s i at fm = pick (same_places at fm) (skipped m s i) i

-- laws of these
both-picked : (a b : Bool) → pick a b false ≡ true → (a ≡ true) × (b ≡ true)
both-picked true b h = (refl, h)
both-picked false b h = clash h refl

both-held : (a b : Bool) → (a && b) ≡ true → (a ≡ true) × (b ≡ true)
both-held true b h = (refl, h)
both-held false b h = clash h refl

places_same : (a b c d a' b' c' d' : ℕ) → a ≡ a' → b ≡ b' → c ≡ c' → d ≡ d' → ◌≡◌ {A = Places} (record { a = a; b = b; c = c; d = d }) (record { a = a'; b = b'; c = c'; d = d' })
places_same a b c d a' b' c' d' e f g h = rw (e, f, g, h)

same-places : (x y : Places) → same_places x y ≡ true → x ≡ y
unfolding same_places
same-places x y h =
    let p = both-held _ _ h in
    let q = both-held _ _ p.1 in
    let r = both-held _ _ q.1 in
    places_same x.a x.b x.c x.d y.a y.b y.c y.d (eqb-true _ _ p.0) (eqb-true _ _ q.0) (eqb-true _ _ r.0) (eqb-true _ _ r.1)

swept_same : (x : Swept) (fm : Places) → x.hit ≡ 0 → x.places ≡ fm → x ≡ swept fm 0
swept_same x fm h e = again x.places fm x.hit e h
  where
    again : (y fm : Places) (k : ℕ) → y ≡ fm → k ≡ 0 → swept y k ≡ swept fm 0
    again y fm k e h = rw (e, h)

idle-is : (x : Swept) (fm : Places) → idle x fm ≡ true → x ≡ swept fm 0
unfolding idle
idle-is x fm h = let p = both-picked _ _ h in swept_same x fm (eqb-true _ _ p.0) (same-places x.places fm p.1)

-- the way out of `is_marked`
pub way-byte : (m : List Bool) (c k : ℕ) → c < 256 → k ≡ c → get_or m k false ≡ marked m c
unfolding marked
way-byte m c k h e = rw (e, lt-ltb c 256 h)

-- the ways out of `is_idle` and `skip_from`
module _ (x : Swept) (fm : Places) where
  pub way-idle : x.hit ≡ 0 → same_places x.places fm ≡ idle x fm
  unfolding idle
  way-idle h = rw (eq-eqb _ _ h)

  pub way-busy : (x.hit ≡ 0 → ⊥) → eqb x.hit 0 ≡ idle x fm
  unfolding idle
  way-busy h = rw (ne_eqb _ _ h)

module _ (m : List Bool) (s : List ℕ) (i : ℕ) (at fm : Places) (b : Bool)
    (be : b ≡ (eqb at.a fm.a && (eqb at.b fm.b && (eqb at.c fm.c && eqb at.d fm.d)))) where
  pub way-from-skip : b ≡ true → (r : ℕ) → r ≡ skipped m s i → r ≡ skip_from m s i at fm
  unfolding skip_from same_places
  way-from-skip h r e = rw (← be, h) e

  pub way-from-here : b ≡ false → i ≡ skip_from m s i at fm
  unfolding skip_from same_places
  way-from-here h = rw (← be, h)

module _ (p t : List ℕ) (fm lm : Places) where
  -- a marked byte is one at which no match begins inside the string, so far as the table goes
  pub record Noted (k : ℕ) (m : List Bool) : Type 0 where
    pub sure : (c : ℕ) → c < k → marked m c ≡ true → idle (step_at p t fm lm fm c) fm ≡ true

  -- the ways through `note_idle`
  pub note-start : (m : List Bool) → Noted 0 m
  note-start m = record { sure = λ c l h. let bad : ⊥ = omega arith in absurd bad }

  marked-value : (m : List Bool) (c : ℕ) → marked m c ≡ true → get_or m c false ≡ true
  unfolding marked
  marked-value m c h = (both-picked (ltb c 256) _ h).1

  marked_other : (m : List Bool) (k c : ℕ) (v : Bool) → (c ≡ k → ⊥) → marked (set m k v) c ≡ true → marked m c ≡ true
  unfolding marked
  marked_other m k c v n h = rw (get_or-set_other m k c v false n) at h

  pub note-more : (m : List Bool) (k : ℕ) → Noted k m → length m ≡ 256 → k < 256 → (x : Swept) → x ≡ step_at p t fm lm fm k → (v : Bool) → v ≡ idle x fm → Noted (k + 1) (set m k v)
  note-more m k n l₀ h₀ x xe v ve = record { sure = λ c l e. split (eqb c k) (λ f. here c (eqb-true c k f) e) (λ f. n.sure c (omega (arith, l, eqb-false c k f)) (marked_other m k c v (eqb-false c k f) e)) }
    where
      here : (c : ℕ) → c ≡ k → marked (set m k v) c ≡ true → idle (step_at p t fm lm fm c) fm ≡ true
      here c z e =
          let w : get_or (set m k v) c false ≡ true = marked-value (set m k v) c e in
          let y : get_or (set m k v) k false ≡ v = get_or-set_same m k v false (omega (arith, l₀, h₀)) in
          let one : v ≡ true = sym y ∙ ap (λ (i : ℕ). get_or (set m k v) i false) (sym z) ∙ w in
          rw z (ap (λ (s : Swept). idle s fm) (sym xe) ∙ sym ve ∙ one)

  pub note-all : (m : List Bool) (k : ℕ) → Noted k m → 256 ≤ k → Noted 256 m
  note-all m k n h = record { sure = λ c l e. n.sure c (omega (arith, h, l)) e }

-- the ways through `skip`
module _ (m : List Bool) (s : List ℕ) (i : ℕ) where
  pub skip_stop : length s ≤ i + 1 → skipped m s i ≡ i
  unfolding skipped
  skip_stop h = loop-done _ _ _ i i (simp (le-leb _ _ h))

  module _ (h : i + 1 < length s) where
    pub skip-here : marked m (get_or s i 0) ≡ false → skipped m s i ≡ i
    unfolding skipped
    skip-here e = loop-done _ _ _ i i (simp (lt-leb _ _ h, e))

    pub skip-on : marked m (get_or s i 0) ≡ true → skipped m s i ≡ skipped m s (i + 1)
    unfolding skipped
    skip-on e = loop-next _ _ _ i (i + 1) (simp (lt-leb _ _ h, e)) (omega (arith, h))

  module _ (r : ℕ) (inv : skipped m s i ≡ r) where
    module _ (last : ℕ) (le : last ≡ length s - 1) where
      pub way-skip-stop : last ≤ i → i ≤ last → last ≡ r
      way-skip-stop h g = let e : last ≡ i = omega arith in e ∙ sym (skip_stop (omega (arith, le, h))) ∙ inv

      module _ (h : i < last) (b : Bool) (be : b ≡ marked m (get_or s i 0)) where
        pub way-skip-here : b ≡ false → i ≡ r
        way-skip-here e = sym (skip-here (omega (arith, le, h)) (sym be ∙ e)) ∙ inv

        pub way-skip-on : b ≡ true → skipped m s (i + 1) ≡ r
        way-skip-on e = sym (skip-on (omega (arith, le, h)) (sym be ∙ e)) ∙ inv

-- past the last, or from it on
pub way-skip-end : (m : List Bool) (s : List ℕ) (from i last r : ℕ) → last ≡ length s - 1 → (from ≤ last → i ≤ last) → last ≤ i
    → skipped m s i ≡ skipped m s from → r ≡ max from last → r ≡ skipped m s from
way-skip-end m s from i last r le high low inv e = split (leb from last)
    (λ t. let h : from ≤ last = leb-true from last t in let z : r ≡ last = omega (arith, e, h) in z ∙ way-skip-stop m s i _ inv last le low (high h))
    (λ t. let h : last < from = leb-false from last t in let z : r ≡ from = omega (arith, e, h) in z ∙ sym (skip_stop m s from (omega (arith, le, h))))

-- a way past a marked byte, and the rest of a run from where it leads
module _ (p s t : List ℕ) (fm lm le : Places) (m : List Bool) (noted : Noted p t fm lm 256 m) where
  chosen-inside : (i : ℕ) → i + 1 < length s → lm ≡ chosen (eqb (i + 1) (length s)) le lm
  unfolding chosen
  chosen-inside i h = rw (ne_eqb (i + 1) (length s) (λ z. let bad : ⊥ = omega (arith, h, z) in bad))

  marked-small : (c : ℕ) → marked m c ≡ true → c < 256
  unfolding marked
  marked-small c h = ltb-true _ _ (both-picked (ltb c 256) _ h).0

  past_one : (i : ℕ) → i + 1 < length s → marked m (get_or s i 0) ≡ true → run_from p s t fm lm le (i + 1) fm ≡ run_from p s t fm lm le i fm
  past_one i h e =
      let small : get_or s i 0 < 256 = marked-small (get_or s i 0) e in
      let y : step_at p t fm lm fm (get_or s i 0) ≡ swept fm 0 = idle-is _ fm (noted.sure (get_or s i 0) small e) in
      way-run-more p s t fm lm le i fm _ refl (omega (arith, h)) lm (chosen-inside i h) (swept fm 0) (sym y) (λ z. let bad : ⊥ = omega (arith, z) in bad)

  abbrev Leads : ℕ → ℕ → Type 0
  Leads i j = (run_from p s t fm lm le j fm ≡ run_from p s t fm lm le i fm) × (i ≤ j)

  leads-by : (n i : ℕ) → length s ≤ n + i → Leads i (skipped m s i)
  leads-by zero i h = rw (skip_stop m s i (omega (arith, h))) (refl, le_refl i)
  leads-by (suc n) i h =
      split (leb (length s) (i + 1))
      (λ e. rw (skip_stop m s i (leb-true _ _ e)) (refl, le_refl i))
      (λ e. split (marked m (get_or s i 0))
      (λ f. let q = leads-by n (i + 1) (omega (arith, h)) in rw (skip-on m s i (leb-false _ _ e) f) (q.0 ∙ past_one i (leb-false _ _ e) f, omega (arith, q.1)))
      (λ f. rw (skip-here m s i (leb-false _ _ e) f) (refl, le_refl i)))

  leads : (i : ℕ) → Leads i (skipped m s i)
  leads i = leads-by (length s) i (omega arith)

  kept : (i : ℕ) (at : Places) → (run_from p s t fm lm le (skip_from m s i at fm) at ≡ run_from p s t fm lm le i at) × (i ≤ skip_from m s i at fm)
  unfolding skip_from
  kept i at =
      split (same_places at fm)
      (λ e. let z : at ≡ fm = same-places at fm e in rw (e, z) (leads i))
      (λ e. rw e (refl, le_refl i))

  -- the ways through `run_skipping`
  module _ (i : ℕ) (at : Places) (r : Bool) (inv : run_from p s t fm lm le i at ≡ r) (j : ℕ) (je : j ≡ skip_from m s i at fm) where
    from-j : run_from p s t fm lm le j at ≡ r
    from-j = ap (λ (k : ℕ). run_from p s t fm lm le k at) je ∙ (kept i at).0 ∙ inv

    pub skip-end : length s ≤ j → false ≡ r
    skip-end h = way-run-end p s t fm lm le j at r from-j h

    module _ (h : j < length s) where
      pub skip-less : i < length s → length s - (j + 1) < length s - i
      skip-less l = let k : i ≤ j = rw je (kept i at).1 in omega (arith, h, k, l)

      module _ (x : Places) (xe : x ≡ chosen (eqb (j + 1) (length s)) le lm) (y : Swept) (ye : y ≡ step_at p t at x fm (get_or s j 0)) where
        pub skip-hit : y.hit ≡ 1 → true ≡ r
        skip-hit e = way-run-hit p s t fm lm le j at r from-j h x xe y ye e

        pub skip-more : (y.hit ≡ 1 → ⊥) → run_from p s t fm lm le (j + 1) y.places ≡ r
        skip-more e = way-run-more p s t fm lm le j at r from-j h x xe y ye e
