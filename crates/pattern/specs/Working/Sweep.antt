-- What one byte of the string does to a set of places. Assumes nothing.
use Rattle.std.specs.Prelude.{◌≡◌, refl, Bool, true, false, ◌&&◌, ◌||◌, ◌⊎◌, List, ℕ, zero, suc, ◌+◌, ◌-◌, ◌/◌, ◌%◌, ◌<◌, ◌≤◌, ltb, leb}
use Rattle.std.proofs.Math.Path.{sym, ap}
use Rattle.std.proofs.Common.{◌∙◌, subst, arith}
use Rattle.std.proofs.Math.Logic.{inl, inr, ⊎_elim}
use Rattle.std.proofs.Math.Dec.{eqb}
use borrow.Author.Tests.{lt-ltb, le-ltb, eq-eqb, ltb-true, ltb-false, leb-true, leb-false, eqb-true, eqb-false}
use Rattle.text.specs.Choice.{clash, split}
use Rattle.pattern.specs.Working.Logic.{or_cases, or_left, or_right, and_left, and_right, and_both}
use Rattle.pattern.specs.Working.Places.{row}
use Rattle.pattern.specs.Working.Scan.{accepts_at}
use Rattle.pattern.specs.Working.Sim.{swept, flag, visit, sweep_one, sweep, step_at, way-sweep-end, way-sweep-done, way-sweep-more}
use Rattle.pattern.specs.Working.Bits.{bit, has, has_join}
use Rattle.pattern.specs.Working.Table.{covers, covers-in, covers-step, covers-zero, bit-next, bit-first, outside}
use Rattle.pattern.specs.declared.places.Places.{Places}
use Rattle.pattern.specs.declared.run.Swept.{Swept}

pub covers_low : (x lo hi p : ℕ) → covers x lo hi p ≡ true → lo ≤ p
unfolding covers
covers_low x lo hi p e = leb-true lo p (and_left _ _ e)

pub covers_high : (x lo hi p : ℕ) → covers x lo hi p ≡ true → p < hi
unfolding covers
covers_high x lo hi p e = ltb-true p hi (and_left (ltb p hi) (bit x (p - lo)) (and_right (leb lo p) _ e))

-- `O` is what is looked at, and a visit of p adds `w l q p` to it
module _ (p t : List ℕ) (c : ℕ) (O : Swept → Bool) (w : ℕ → ℕ → ℕ → Bool)
    (O-visit : (q l : ℕ) (a : Swept) → O (visit t q (eqb (l % 2) 1) a) ≡ O a || w l q q)
    (w-next : (l q r : ℕ) → q < r → w (l / 2) (q + 1) r ≡ w l q r) where
  record Seen (x l q z : ℕ) : Type 0 where
    pub place : ℕ
    pub covered : covers x q z place ≡ true
    pub accepted : accepts_at p place c ≡ true
    pub shown : w l q place ≡ true

  one-sound : (x l q z : ℕ) (a : Swept) → q < z → O (sweep_one p t x l q c a) ≡ true → (O a ≡ true) ⊎ Seen x l q z
  unfolding sweep_one
  one-sound x l q z a h e = split (eqb (x % 2) 1)
      (λ f. split (accepts_at p q c)
      (λ g. ⊎_elim (λ y. inl y) (λ y. inr (record { place = q; covered = covers-step x q z q h ∙ or_left _ _ (and_both _ _ f (eq-eqb q q refl)); accepted = g; shown = y }))
      (or_cases (O a) (w l q q) (sym (O-visit q l a) ∙ (rw (f, g) at e))))
      (λ g. inl (rw (f, g) at e)))
      (λ f. inl (rw f at e))

  one-keeps : (x l q : ℕ) (a : Swept) → O a ≡ true → O (sweep_one p t x l q c a) ≡ true
  unfolding sweep_one
  one-keeps x l q a e = split (eqb (x % 2) 1) (λ f. split (accepts_at p q c) (λ g. rw (f, g) (O-visit q l a ∙ or_left _ _ e)) (λ g. rw (f, g) e)) (λ f. rw f e)

  one-shows : (x l q : ℕ) (a : Swept) → eqb (x % 2) 1 ≡ true → accepts_at p q c ≡ true → w l q q ≡ true → O (sweep_one p t x l q c a) ≡ true
  unfolding sweep_one
  one-shows x l q a f g y = rw (f, g) (O-visit q l a ∙ or_right (O a) _ y)

  later : (x l q z : ℕ) → q < z → Seen (x / 2) (l / 2) (q + 1) z → Seen x l q z
  later x l q z h s = record {
    place = s.place;
    covered = covers-step x q z s.place h ∙ or_right (eqb (x % 2) 1 && eqb q s.place) _ s.covered;
    accepted = s.accepted;
    shown = sym (w-next l q s.place (omega (arith, covers_low (x / 2) (q + 1) z s.place s.covered))) ∙ s.shown;
  }

  sweep_sound : (n x l q z : ℕ) (a : Swept) → z - q ≤ n → O (sweep p t x l q z c a) ≡ true → (O a ≡ true) ⊎ Seen x l q z
  sweep_sound zero x l q z a h e = inl (rw (← way-sweep-end p t x l q c a z _ refl (omega arith)) at e)
  sweep_sound (suc n) x l q z a h e = split (leb z q)
      (λ f. inl (rw (← way-sweep-end p t x l q c a z _ refl (leb-true _ _ f)) at e))
      (λ f. split (eqb x 0)
      (λ g. inl (rw (← way-sweep-done p t x l q c a z _ refl (leb-false _ _ f) (eqb-true _ _ g)) at e))
      (λ g. let i = leb-false z q f in
      ⊎_elim (λ y. one-sound x l q z a i y) (λ s. inr (later x l q z i s))
      (sweep_sound n (x / 2) (l / 2) (q + 1) z (sweep_one p t x l q c a) (omega arith) (rw (← way-sweep-more p t x l q c a z _ refl i (eqb-false _ _ g) (sweep_one p t x l q c a) refl) at e))))

  sweep-keeps : (n x l q z : ℕ) (a : Swept) → z - q ≤ n → O a ≡ true → O (sweep p t x l q z c a) ≡ true
  sweep-keeps zero x l q z a h e = rw (← way-sweep-end p t x l q c a z _ refl (omega arith)) e
  sweep-keeps (suc n) x l q z a h e = split (leb z q)
      (λ f. rw (← way-sweep-end p t x l q c a z _ refl (leb-true _ _ f)) e)
      (λ f. split (eqb x 0)
      (λ g. rw (← way-sweep-done p t x l q c a z _ refl (leb-false _ _ f) (eqb-true _ _ g)) e)
      (λ g. let i = leb-false z q f in
      rw (← way-sweep-more p t x l q c a z _ refl i (eqb-false _ _ g) (sweep_one p t x l q c a) refl)
      (sweep-keeps n (x / 2) (l / 2) (q + 1) z (sweep_one p t x l q c a) (omega arith) (one-keeps x l q a e))))

  sweep-shows : (n x l q z : ℕ) (a : Swept) → z - q ≤ n → Seen x l q z → O (sweep p t x l q z c a) ≡ true
  sweep-shows zero x l q z a h s = clash s.covered (outside x q z s.place (omega arith))
  sweep-shows (suc n) x l q z a h s = split (leb z q)
      (λ f. clash s.covered (outside x q z s.place (leb-true _ _ f)))
      (λ f. split (eqb x 0)
      (λ g. clash s.covered (rw (eqb-true x 0 g) (covers-zero q z s.place)))
      (λ g. let i = leb-false z q f in
      rw (← way-sweep-more p t x l q c a z _ refl i (eqb-false _ _ g) (sweep_one p t x l q c a) refl)
      (⊎_elim
      (λ y. let k = eqb-true q s.place (and_right (eqb (x % 2) 1) _ y) in
      sweep-keeps n (x / 2) (l / 2) (q + 1) z (sweep_one p t x l q c a) (omega arith)
      (one-shows x l q a (and_left _ _ y) (subst (λ (m : ℕ). accepts_at p m c ≡ true) (sym k) s.accepted) (subst (λ (m : ℕ). w l q m ≡ true) (sym k) s.shown)))
      (λ y. sweep-shows n (x / 2) (l / 2) (q + 1) z (sweep_one p t x l q c a) (omega arith)
      (record { place = s.place; covered = y; accepted = s.accepted; shown = w-next l q s.place (omega (arith, covers_low (x / 2) (q + 1) z s.place y)) ∙ s.shown }))
      (or_cases (eqb (x % 2) 1 && eqb q s.place) (covers (x / 2) (q + 1) z s.place) (sym (covers-step x q z s.place i) ∙ s.covered)))))

-- a place of the set at, which accepts the byte, and of which W holds
pub record Passed (p : List ℕ) (c : ℕ) (at : Places) (W : ℕ → Bool) : Type 0 where
  pub place : ℕ
  pub below : place < 256
  pub here : has at place ≡ true
  pub accepted : accepts_at p place c ≡ true
  pub shown : W place ≡ true

-- the word in which a place of a set is
has-a : (x : Places) (q : ℕ) → q < 64 → has x q ≡ covers x.a 0 64 q
unfolding has
has-a x q h = let o : q - 0 ≡ q = omega arith in rw (lt-ltb _ _ h, covers-in x.a 0 64 q (omega arith) h, o)

has-b : (x : Places) (q : ℕ) → 64 ≤ q → q < 128 → has x q ≡ covers x.b 64 128 q
unfolding has
has-b x q g h = rw (le-ltb q 64 g, lt-ltb q 128 h, covers-in x.b 64 128 q g h)

has-c : (x : Places) (q : ℕ) → 128 ≤ q → q < 192 → has x q ≡ covers x.c 128 192 q
unfolding has
has-c x q g h = let g' : 64 ≤ q = omega arith in rw (le-ltb q 64 g', le-ltb q 128 g, lt-ltb q 192 h, covers-in x.c 128 192 q g h)

has-d : (x : Places) (q : ℕ) → 192 ≤ q → q < 256 → has x q ≡ covers x.d 192 256 q
unfolding has
has-d x q g h = let g₁ : 64 ≤ q = omega arith in let g₂ : 128 ≤ q = omega arith in rw (le-ltb q 64 g₁, le-ltb q 128 g₂, le-ltb q 192 g, covers-in x.d 192 256 q g h)

module _ (p t : List ℕ) (c : ℕ) (O : Swept → Bool) (w : ℕ → ℕ → ℕ → Bool)
    (O-visit : (q l : ℕ) (a : Swept) → O (visit t q (eqb (l % 2) 1) a) ≡ O a || w l q q)
    (w-next : (l q r : ℕ) → q < r → w (l / 2) (q + 1) r ≡ w l q r)
    (at last : Places) (W : ℕ → Bool)
    (wa : (q : ℕ) → q < 64 → w last.a 0 q ≡ W q) (wb : (q : ℕ) → 64 ≤ q → q < 128 → w last.b 64 q ≡ W q)
    (wc : (q : ℕ) → 128 ≤ q → q < 192 → w last.c 128 q ≡ W q) (wd : (q : ℕ) → 192 ≤ q → q < 256 → w last.d 192 q ≡ W q) where
  step-sound : (first : Places) → O (step_at p t at last first c) ≡ true → (O (swept first 0) ≡ true) ⊎ Passed p c at W
  unfolding step_at
  step-sound first e = ⊎_elim
      (λ e₃. ⊎_elim
      (λ e₂. ⊎_elim
      (λ e₁. ⊎_elim (λ e₀. inl e₀)
      (λ s. let h = covers_high at.a 0 64 s.place s.covered in
      inr (record { place = s.place; below = omega arith; here = has-a at s.place h ∙ s.covered; accepted = s.accepted; shown = sym (wa s.place h) ∙ s.shown }))
      (sweep_sound p t c O w O-visit w-next 64 at.a last.a 0 64 (swept first 0) (omega arith) e₁))
      (λ s. let h = covers_high at.b 64 128 s.place s.covered in let g = covers_low at.b 64 128 s.place s.covered in
      inr (record { place = s.place; below = omega arith; here = has-b at s.place g h ∙ s.covered; accepted = s.accepted; shown = sym (wb s.place g h) ∙ s.shown }))
      (sweep_sound p t c O w O-visit w-next 64 at.b last.b 64 128 _ (omega arith) e₂))
      (λ s. let h = covers_high at.c 128 192 s.place s.covered in let g = covers_low at.c 128 192 s.place s.covered in
      inr (record { place = s.place; below = omega arith; here = has-c at s.place g h ∙ s.covered; accepted = s.accepted; shown = sym (wc s.place g h) ∙ s.shown }))
      (sweep_sound p t c O w O-visit w-next 64 at.c last.c 128 192 _ (omega arith) e₃))
      (λ s. let h = covers_high at.d 192 256 s.place s.covered in let g = covers_low at.d 192 256 s.place s.covered in
      inr (record { place = s.place; below = h; here = has-d at s.place g h ∙ s.covered; accepted = s.accepted; shown = sym (wd s.place g h) ∙ s.shown }))
      (sweep_sound p t c O w O-visit w-next 64 at.d last.d 192 256 _ (omega arith) e)

  keep-d : (a : Swept) → O a ≡ true → O (sweep p t at.d last.d 192 256 c a) ≡ true
  keep-d a e = sweep-keeps p t c O w O-visit w-next 64 at.d last.d 192 256 a (omega arith) e

  keep-c : (a : Swept) → O a ≡ true → O (sweep p t at.d last.d 192 256 c (sweep p t at.c last.c 128 192 c a)) ≡ true
  keep-c a e = keep-d _ (sweep-keeps p t c O w O-visit w-next 64 at.c last.c 128 192 a (omega arith) e)

  keep-b : (a : Swept) → O a ≡ true → O (sweep p t at.d last.d 192 256 c (sweep p t at.c last.c 128 192 c (sweep p t at.b last.b 64 128 c a))) ≡ true
  keep-b a e = keep-c _ (sweep-keeps p t c O w O-visit w-next 64 at.b last.b 64 128 a (omega arith) e)

  step_keeps : (first : Places) → O (swept first 0) ≡ true → O (step_at p t at last first c) ≡ true
  unfolding step_at
  step_keeps first e = keep-b _ (sweep-keeps p t c O w O-visit w-next 64 at.a last.a 0 64 _ (omega arith) e)

  step-shows : (first : Places) → Passed p c at W → O (step_at p t at last first c) ≡ true
  unfolding step_at
  step-shows first s = split (ltb s.place 64)
      (λ e. let h = ltb-true s.place 64 e in
      keep-b _ (sweep-shows p t c O w O-visit w-next 64 at.a last.a 0 64 _ (omega arith)
      (record { place = s.place; covered = sym (has-a at s.place h) ∙ s.here; accepted = s.accepted; shown = wa s.place h ∙ s.shown })))
      (λ e. let g = ltb-false s.place 64 e in split (ltb s.place 128)
      (λ e. let h = ltb-true s.place 128 e in
      keep-c _ (sweep-shows p t c O w O-visit w-next 64 at.b last.b 64 128 _ (omega arith)
      (record { place = s.place; covered = sym (has-b at s.place g h) ∙ s.here; accepted = s.accepted; shown = wb s.place g h ∙ s.shown })))
      (λ e. let g = ltb-false s.place 128 e in split (ltb s.place 192)
      (λ e. let h = ltb-true s.place 192 e in
      keep-d _ (sweep-shows p t c O w O-visit w-next 64 at.c last.c 128 192 _ (omega arith)
      (record { place = s.place; covered = sym (has-c at s.place g h) ∙ s.here; accepted = s.accepted; shown = wc s.place g h ∙ s.shown })))
      (λ e. let g = ltb-false s.place 192 e in
      sweep-shows p t c O w O-visit w-next 64 at.d last.d 192 256 _ (omega arith)
      (record { place = s.place; covered = sym (has-d at s.place g s.below) ∙ s.here; accepted = s.accepted; shown = wd s.place g s.below ∙ s.shown }))))

-- the places that come next: those at which a match can begin, and those that follow a place that was passed
module _ (p t : List ℕ) (at last first : Places) (c k : ℕ) where
  abbrev places_of : Swept → Bool
  places_of a = has a.places k

  abbrev follows : ℕ → ℕ → ℕ → Bool
  follows l q r = has (row t r) k

  places-visit : (q l : ℕ) (a : Swept) → places_of (visit t q (eqb (l % 2) 1) a) ≡ places_of a || follows l q q
  unfolding visit
  places-visit q l a = has_join a.places (row t q) k

  pub next-sound : has (step_at p t at last first c).places k ≡ true → (has first k ≡ true) ⊎ Passed p c at (λ q. has (row t q) k)
  next-sound e = step-sound p t c places_of follows places-visit (λ l q r h. refl) at last (λ q. has (row t q) k)
      (λ q h. refl) (λ q g h. refl) (λ q g h. refl) (λ q g h. refl) first e

  pub next-first : has first k ≡ true → has (step_at p t at last first c).places k ≡ true
  next-first e = step_keeps p t c places_of follows places-visit (λ l q r h. refl) at last (λ q. has (row t q) k)
      (λ q h. refl) (λ q g h. refl) (λ q g h. refl) (λ q g h. refl) first e

  pub next-follows : Passed p c at (λ q. has (row t q) k) → has (step_at p t at last first c).places k ≡ true
  next-follows s = step-shows p t c places_of follows places-visit (λ l q r h. refl) at last (λ q. has (row t q) k)
      (λ q h. refl) (λ q g h. refl) (λ q g h. refl) (λ q g h. refl) first s

flagged : (h : ℕ) (b : Bool) → eqb (flag h b) 1 ≡ eqb h 1 || b
unfolding flag
flagged h true = or-true (eqb h 1)
  where
    or-true : (a : Bool) → true ≡ a || true
    or-true true = refl
    or-true false = refl
flagged h false = or-none (eqb h 1)
  where
    or-none : (a : Bool) → a ≡ a || false
    or-none true = refl
    or-none false = refl

-- a match ends here: a last place was passed
module _ (p t : List ℕ) (at last first : Places) (c : ℕ) where
  abbrev hit-of : Swept → Bool
  hit-of a = eqb a.hit 1

  abbrev final : ℕ → ℕ → ℕ → Bool
  final l q r = bit l (r - q)

  hit-visit : (q l : ℕ) (a : Swept) → hit-of (visit t q (eqb (l % 2) 1) a) ≡ hit-of a || final l q q
  unfolding visit
  hit-visit q l a = flagged a.hit (eqb (l % 2) 1) ∙ ap (λ (b : Bool). eqb a.hit 1 || b) (sym (bit-first l q q refl))

  at_a : (q : ℕ) → q < 64 → final last.a 0 q ≡ has last q
  at_a q h = sym (has-a last q h ∙ covers-in last.a 0 64 q (omega arith) h)

  at_b : (q : ℕ) → 64 ≤ q → q < 128 → final last.b 64 q ≡ has last q
  at_b q g h = sym (has-b last q g h ∙ covers-in last.b 64 128 q g h)

  at_c : (q : ℕ) → 128 ≤ q → q < 192 → final last.c 128 q ≡ has last q
  at_c q g h = sym (has-c last q g h ∙ covers-in last.c 128 192 q g h)

  at-d : (q : ℕ) → 192 ≤ q → q < 256 → final last.d 192 q ≡ has last q
  at-d q g h = sym (has-d last q g h ∙ covers-in last.d 192 256 q g h)

  pub hit-sound : eqb (step_at p t at last first c).hit 1 ≡ true → Passed p c at (λ q. has last q)
  hit-sound e = ⊎_elim (λ f. clash f refl) (λ s. s) (step-sound p t c hit-of final hit-visit (λ l q r h. sym (bit-next l q r h)) at last (λ q. has last q) at_a at_b at_c at-d first e)

  pub hit-shows : Passed p c at (λ q. has last q) → eqb (step_at p t at last first c).hit 1 ≡ true
  hit-shows s = step-shows p t c hit-of final hit-visit (λ l q r h. sym (bit-next l q r h)) at last (λ q. has last q) at_a at_b at_c at-d first s
