-- What a text converts to, in the words of `Form`. Assumes nothing.
use Rattle.std.specs.Prelude.{◌≡◌, refl, Bool, true, false, ℕ, suc, ◌+◌, ◌≤◌, ◌<◌, eqb, ltb, leb, get_or, take, drop}
use Rattle.std.proofs.Common.{sym, ◌∙◌, add-zero, not-suc-le-zero, add-one, arith, length-append, take-append-drop, take_at, drop_at, drop-cons, get_or-append-add, length-take-le}
use Rattle.std.proofs.Math.Path.{ap, subst}
use mathlib.Core.List.{List, [], ◌∷◌, ◌++◌}
use Rattle.std.proofs.Math.ListN.{length}
use borrow.Author.Tests.{le-ltb, le-leb, lt-leb, ne_eqb, eqb-true, eqb-false, ltb-true, ltb-false, leb-true, leb-false}
use Rattle.text.specs.Choice.{split, clash}
use Rattle.text.specs.Scan.{run}
use Rattle.text.specs.Class.{in_class, digit, is_digit}
use Rattle.float.specs.Written.{nought, amount_of, with_fraction, unsigned, float_of}
use Rattle.float.specs.Form.{Digits, Plain, whole, point, Form, plain, minus, Becomes, short, long, malformed}
use Rattle.float.specs.Working.Reading.{run_length, run-front, head-is, tail-same}

no-point : in_class digit 46 ≡ false
unfolding in_class is_digit
no-point = refl

no_minus : in_class digit 45 ≡ false
unfolding in_class is_digit
no_minus = refl

-- digits with a point behind them
run-stops : (w f : List ℕ) → run (in_class digit) w ≡ length w → run (in_class digit) (w ++ (46 ∷ f)) ≡ length w
run-stops [] f e = rw no-point
run-stops (b ∷ w) f e = rw (head-is (in_class digit) b w e) (ap suc (run-stops w f (tail-same (in_class digit) b w e)))

module _ (w f : List ℕ) where
  pointed : length (w ++ (46 ∷ f)) ≡ length w + 1 + length f
  pointed = length-append w (46 ∷ f) ∙ omega arith

  point_at : get_or (w ++ (46 ∷ f)) (length w) 0 ≡ 46
  point_at = ap (λ (n : ℕ). get_or (w ++ (46 ∷ f)) n 0) (sym (add-zero (length w))) ∙ get_or-append-add w (46 ∷ f) 0 0

  before : take (length w) (w ++ (46 ∷ f)) ≡ w
  before = take_at w (46 ∷ f) (length w) refl

  behind : drop (length w + 1) (w ++ (46 ∷ f)) ≡ f
  behind =
      let e : length (w ++ (46 ∷ [])) ≡ length w + 1 = length-append w (46 ∷ []) in
      ap (drop (length w + 1)) (sym (joined w)) ∙ drop_at (w ++ (46 ∷ [])) f (length w + 1) e
    where
      joined : (w : List ℕ) → (w ++ (46 ∷ [])) ++ f ≡ w ++ (46 ∷ f)
      joined [] = refl
      joined (b ∷ w) = ap (λ (l : List ℕ). b ∷ l) (joined w)

-- text of the form
plain-unsigned : (n : Bool) {s w f : List ℕ} → Plain s w f → unsigned n s ≡ amount_of n w f
unfolding unsigned with_fraction
plain-unsigned n (whole {w = w} d) =
    rw (d.all, ne_eqb (length w) 0 (λ z. omega (arith, z, d.some)), le-leb (length w) (length w) (omega arith))
plain-unsigned n (point {w = w} {f = f} d c) =
    rw (
      run-stops w f d.all,
      ne_eqb (length w) 0 (λ z. omega (arith, z, d.some)),
      lt-leb (length (w ++ (46 ∷ f))) (length w) (omega (arith, pointed w f)),
      point_at w f,
      before w f,
      behind w f,
      c.all,
      ne_eqb (length f) 0 (λ z. omega (arith, z, c.some)),
      le-ltb (length f) (length f) (omega arith),
    )

first : (b : ℕ) (w : List ℕ) → Digits (b ∷ w) → eqb b 45 ≡ false
first b w d = ne_eqb b 45 (λ z. clash (ap (in_class digit) (sym z) ∙ head-is (in_class digit) b w d.all) no_minus)

plain_float : {s w f : List ℕ} → Plain s w f → float_of s ≡ unsigned false s
unfolding float_of
plain_float (whole {w = []} d) = absurd (not-suc-le-zero d.some)
plain_float (whole {w = b ∷ w} d) = rw (first b w d)
plain_float (point {w = []} d c) = absurd (not-suc-le-zero d.some)
plain_float (point {w = b ∷ w} d c) = rw (first b w d)

pub form-float : {s : List ℕ} {n : Bool} {w f : List ℕ} → Form s n w f → float_of s ≡ amount_of n w f
unfolding float_of
form-float (plain p) = plain_float p ∙ plain-unsigned false p
form-float (minus p) = plain-unsigned true p

-- what text of the form is, told by the front of it
data Front (s f : List ℕ) : Type 0 where
  all : run (in_class digit) s ≡ length s → Front s f
  part : run (in_class digit) s < length s → get_or s (run (in_class digit) s) 0 ≡ 46 → drop (run (in_class digit) s + 1) s ≡ f → Digits f → Front s f

fronted : {s w f : List ℕ} → Plain s w f → (0 < run (in_class digit) s) × Front s f
fronted (whole {w = w} d) = (rw d.all d.some, all d.all)
fronted (point {w = w} {f = f} d c) =
    let r : run (in_class digit) (w ++ (46 ∷ f)) ≡ length w = run-stops w f d.all in
    (rw r d.some, part (rw r (omega (arith, pointed w f))) (rw r (point_at w f)) (rw r (behind w f)) c)

-- a text is of the form, or converts to zero
data Told (s : List ℕ) : Type 0 where
  formed : (w f : List ℕ) → Plain s w f → Told s
  none : ((w f : List ℕ) → Plain s w f → ⊥) → ((n : Bool) → unsigned n s ≡ nought) → Told s

module _ (s : List ℕ) where
  abbrev k : ℕ
  k = run (in_class digit) s

  abbrev rest : List ℕ
  rest = drop (k + 1) s

  abbrev j : ℕ
  j = run (in_class digit) rest

  no-digits : eqb k 0 ≡ true → Told s
  unfolding unsigned
  no-digits e =
      let z : k ≡ 0 = eqb-true k 0 e in
      none (λ w f p. let h : 0 < k = (fronted p).0 in let no : ⊥ = omega (arith, z, h) in no) (λ n. rw e)

  only-digits : eqb k 0 ≡ false → leb (length s) k ≡ true → Told s
  only-digits e h =
      let z : k ≡ 0 → ⊥ = eqb-false k 0 e in
      let l : length s ≤ k = leb-true (length s) k h in
      let m : k ≤ length s = run_length (in_class digit) s in
      formed s [] (whole {w = s} (record { some = omega (arith, z, l, m); all = omega (arith, l, m) }))

  module _ (e : eqb k 0 ≡ false) (h : leb (length s) k ≡ false) where
    more : k < length s
    more = leb-false (length s) k h

    other : (w f : List ℕ) → ((get_or s k 0 ≡ 46) → (rest ≡ f) → Digits f → ⊥) → Plain s w f → ⊥
    other w f bar p = elim (fronted p).1 [
      | all r ↦ let no : ⊥ = omega (arith, r, more) in no
      | part l g q d ↦ bar g q d
    ]

    no-mark : eqb (get_or s k 0) 46 ≡ false → Told s
    unfolding unsigned
    no-mark g = none (λ w f p. other w f (λ z q d. eqb-false (get_or s k 0) 46 g z) p) (λ n. rw (e, h, g))

    module _ (g : eqb (get_or s k 0) 46 ≡ true) where
      no_fraction : eqb j 0 ≡ true → Told s
      unfolding unsigned with_fraction
      no_fraction i =
          let z : j ≡ 0 = eqb-true j 0 i in
          none (λ w f p. other w f (λ y q d.
          let a : run (in_class digit) f ≡ 0 = ap (run (in_class digit)) (sym q) ∙ z in
          let no : ⊥ = omega (arith, a, d.some, d.all) in no) p) (λ n. rw (e, h, g, i))

      more-behind : eqb j 0 ≡ false → ltb j (length rest) ≡ true → Told s
      unfolding unsigned with_fraction
      more-behind i l =
          let m : j < length rest = ltb-true j (length rest) l in
          none (λ w f p. other w f (λ y q d.
          let a : run (in_class digit) rest ≡ length rest = subst (λ (x : List ℕ). run (in_class digit) x ≡ length x) (sym q) d.all in
          let no : ⊥ = omega (arith, a, m) in no) p) (λ n. rw (e, h, g, i, l))

      parted : take k s ++ (46 ∷ rest) ≡ s
      parted =
          let a : drop k s ≡ get_or s k 0 ∷ drop (suc k) s = drop-cons s k 0 more in
          ap (λ (b : ℕ). take k s ++ (b ∷ rest)) (sym (eqb-true (get_or s k 0) 46 g))
          ∙ ap (λ (n : ℕ). take k s ++ (get_or s k 0 ∷ drop n s)) (add-one k) ∙ ap (λ (l : List ℕ). take k s ++ l) (sym a) ∙ take-append-drop k s

      with-fraction : eqb j 0 ≡ false → ltb j (length rest) ≡ false → Told s
      with-fraction i l =
          let z : k ≡ 0 → ⊥ = eqb-false k 0 e in
          let y : j ≡ 0 → ⊥ = eqb-false j 0 i in
          let m : length rest ≤ j = ltb-false j (length rest) l in
          let a : j ≤ length rest = run_length (in_class digit) rest in
          let b : length (take k s) ≡ k = length-take-le k s (omega (arith, more)) in
          let d : Digits (take k s) = record { some = omega (arith, b, z); all = run-front (in_class digit) s } in
          formed (take k s) rest (subst (λ (x : List ℕ). Plain x (take k s) rest) parted (point {w = take k s} {f = rest} d (record { some = omega (arith, y, a); all = omega (arith, m, a) })))

  told : Told s
  told =
      split (eqb k 0) no-digits
      (λ e. split (leb (length s) k) (only-digits e)
      (λ h. split (eqb (get_or s k 0) 46)
      (λ g. split (eqb j 0) (no_fraction e h g)
      (λ i. split (ltb j (length rest)) (more-behind e h g i) (with-fraction e h g i)))
      (no-mark e h)))

formed-becomes : (s : List ℕ) (n : Bool) (w f : List ℕ) → Form s n w f → Becomes s (float_of s)
unfolding amount_of
formed-becomes s n w f p =
    split (ltb 18 (length w + length f))
    (λ e. subst (Becomes s) (sym (form-float p ∙ rw e)) (long n w f p (ltb-true 18 (length w + length f) e)))
    (λ e. subst (Becomes s) (sym (form-float p ∙ rw e)) (short n w f p (ltb-false 18 (length w + length f) e)))

-- a sign, or none
data Signed (s w f : List ℕ) : Type 0 where
  bare : Plain s w f → Signed s w f
  signed : (t : List ℕ) → s ≡ 45 ∷ t → Plain t w f → Signed s w f

sign_of : {s : List ℕ} {n : Bool} {w f : List ℕ} → Form s n w f → Signed s w f
sign_of (plain p) = bare p
sign_of (minus {s = s} p) = signed s refl p

no_text : {w f : List ℕ} → Signed [] w f → ⊥
no_text (bare p) = not-suc-le-zero (fronted p).0
no_text (signed t e p) = let z : 0 ≡ suc (length t) = ap length e in let no : ⊥ = omega (arith, z) in no

unformed-minus : (t w f : List ℕ) → (Plain t w f → ⊥) → Signed (45 ∷ t) w f → ⊥
unformed-minus t w f bar (bare p) = not-suc-le-zero (subst (λ (z : ℕ). 0 < z) (rw no_minus) (fronted p).0)
unformed-minus t w f bar (signed u e p) = bar (subst (λ (x : List ℕ). Plain x w f) (sym (ap (drop 1) e)) p)

unformed-plain : (b : ℕ) (t w f : List ℕ) → eqb b 45 ≡ false → (Plain (b ∷ t) w f → ⊥) → Signed (b ∷ t) w f → ⊥
unformed-plain b t w f h bar (bare p) = bar p
unformed-plain b t w f h bar (signed u e p) = eqb-false b 45 h (ap (λ (l : List ℕ). get_or l 0 0) e)

with-minus : (t : List ℕ) → Told t → Becomes (45 ∷ t) (float_of (45 ∷ t))
unfolding float_of
with-minus t (formed w f p) = formed-becomes (45 ∷ t) true w f (minus p)
with-minus t (none bar z) = subst (Becomes (45 ∷ t)) (sym (z true)) (malformed (λ n w f q. unformed-minus t w f (bar w f) (sign_of q)))

without-minus : (b : ℕ) (t : List ℕ) → eqb b 45 ≡ false → Told (b ∷ t) → Becomes (b ∷ t) (float_of (b ∷ t))
unfolding float_of
without-minus b t h (formed w f p) = formed-becomes (b ∷ t) false w f (plain p)
without-minus b t h (none bar z) = rw h (subst (Becomes (b ∷ t)) (sym (z false)) (malformed (λ n w f q. unformed-plain b t w f h (bar w f) (sign_of q))))

-- "of at most 18 digits become the nearest 32-bit float"; "longer or malformed text converts to zero"
pub written-reads : (s : List ℕ) → Becomes s (float_of s)
unfolding float_of
written-reads [] = malformed (λ n w f q. no_text (sign_of q))
written-reads (b ∷ t) =
    split (eqb b 45)
    (λ h. subst (λ (x : ℕ). Becomes (x ∷ t) (float_of (x ∷ t))) (sym (eqb-true b 45 h)) (with-minus t (told t)))
    (λ h. without-minus b t h (told (b ∷ t)))
