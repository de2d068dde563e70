-- What lexical's reader decodes from a legal literal is what document 01's list of escapes gives. Assumes nothing.
use Rattle.std.specs.Prelude.{◌≡◌, Bool, true, leb, ltb, length, get_or, take, drop}
use Rattle.std.proofs.Math.Path.{refl}
use Rattle.std.proofs.Common.{ap, ◌∙◌, subst}
use Rattle.std.proofs.Math.Bool.{false}
use mathlib.Core.List.{List, [], ◌∷◌}
use Prim.Native.Nat.{ℕ, suc, ◌+◌, ◌-◌, ◌≤◌, ◌<◌}
use native.Mathlib.Omega.{arith}
use Rattle.std.proofs.Math.Numerals.{add-one}
use Rattle.std.proofs.Math.Dec.{eqb}
use Rattle.std.proofs.Math.Seq.{drop-cons}
use borrow.Author.Tests.{eqb-true, leb-true, ltb-true, ltb-false}
use Rattle.text.specs.Choice.{pick, split, clash}
use Rattle.lexical.specs.Theorems.Bounds.{chosen}
use Rattle.lexical.specs.Class.{class_of}
use Rattle.lexical.specs.Run.{has_class, in_run, WHITE}
use Rattle.lexical.specs.Unit as U
use Rattle.grammar.specs.Escape.{octal, white, leads, two_octal, Control, Dropped, stopped, dropped, Other, other_byte, plain_byte, octal_value, Gives, ends, plain, control, joined, one_more, three, zero-1, zero-2, zero-3, other}
use Rattle.grammar.specs.Escape as E

-- the bytes of s from i to before e
unfoldable pub between : List ℕ → ℕ → ℕ → List ℕ
between s i e = take (e - i) (drop i s)

-- the two octal tests agree
pub octal-is : (b : ℕ) → U.octal b ≡ octal b
unfolding octal U.octal
octal-is b = refl

pub octal-range : (b : ℕ) → octal b ≡ true → (48 ≤ b) × (b ≤ 55)
unfolding octal
octal-range b =
    chosen (λ (t : Bool). t ≡ true → (48 ≤ b) × (b ≤ 55)) (leb 48 b) (leb b 55) false
    (λ e h. (leb-true _ _ e, leb-true _ _ h)) (λ e h. clash h refl)

pub octal-zero : octal 48 ≡ true
unfolding octal
octal-zero = refl

module _ (s : List ℕ) where
  pub between_none : (e : ℕ) → between s e e ≡ []
  unfolding between
  between_none e = let z : e - e ≡ 0 = omega arith in rw z

  pub between-one : (i e : ℕ) → i < e → e ≤ length s → between s i e ≡ get_or s i 0 ∷ between s (i + 1) e
  unfolding between
  between-one i e h k =
      let z : e - i ≡ suc (e - (i + 1)) = omega (arith, h) in
      rw (z, drop-cons s i 0 (omega (arith, h, k)), add-one i)

  -- what the byte at i fails, the bytes from i on fail
  pub leads-not : (p : ℕ → Bool) (i e : ℕ) → i ≤ e → e ≤ length s → p (get_or s i 0) ≡ false → leads p (between s i e) ≡ false
  leads-not p i e h k f =
      split (ltb i e) (λ l. rw (between-one i e (ltb-true _ _ l) k) f)
      (λ l. let z : i ≡ e = omega (arith, h, ltb-false i e l) in rw (z, between_none e))

-- the two tests of whitespace agree
pub data Mark : ℕ → Type 0 where
  mark : (c : ℕ) → eqb c 1 ≡ false → eqb c 2 ≡ false → Mark c

mark-or : (t : Bool) (k r : ℕ) → Mark k → Mark r → Mark (pick t k r)
mark-or t k r h l = chosen Mark t k r (λ e. h) (λ e. l)

pub class-other : (b : ℕ) → eqb b 32 ≡ false → eqb b 9 ≡ false → eqb b 10 ≡ false → Mark (class_of b)
unfolding class_of
class-other b h k l =
    chosen Mark (pick (eqb b 32) true (eqb b 9)) 1 _ (λ e. clash e (rw (h, k)))
    (λ e. chosen Mark (eqb b 10) 2 _ (λ f. clash f l)
    (λ f. mark-or (pick (pick (leb 97 b) (leb b 122) false) true (pick (pick (leb 65 b) (leb b 90) false) true (eqb b 95))) 3 _ (mark 3 refl refl) (mark-or (pick (leb 48 b) (leb b 57) false) 4 _ (mark 4 refl refl) (mark-or (eqb b 34) 5 _ (mark 5 refl refl) (mark-or (eqb b 35) 6 _ (mark 6 refl refl) (mark-or (eqb b 0) 7 _ (mark 7 refl refl)
    (mark-or (eqb b 124) 8 _ (mark 8 refl refl) (mark-or (eqb b 126) 9 _ (mark 9 refl refl)
    (mark-or (eqb b 40) 24 _ (mark 24 refl refl) (mark-or (eqb b 41) 25 _ (mark 25 refl refl) (mark-or (eqb b 123) 26 _ (mark 26 refl refl) (mark-or (eqb b 125) 27 _ (mark 27 refl refl) (mark-or (eqb b 44) 28 _ (mark 28 refl refl)
    (mark-or (eqb b 59) 29 _ (mark 29 refl refl) (mark-or (eqb b 61) 30 _ (mark 30 refl refl) (mark-or (eqb b 33) 31 _ (mark 31 refl refl) (mark-or (eqb b 60) 32 _ (mark 32 refl refl) (mark-or (eqb b 62) 33 _ (mark 33 refl refl)
    (mark-or (eqb b 46) 34 _ (mark 34 refl refl) (mark-or (eqb b 36) 35 _ (mark 35 refl refl) (mark-or (eqb b 64) 36 _ (mark 36 refl refl) (mark-or (eqb b 38) 37 _ (mark 37 refl refl) (mark-or (eqb b 43) 38 _ (mark 38 refl refl)
    (mark-or (eqb b 45) 39 _ (mark 39 refl refl) (mark-or (eqb b 42) 40 _ (mark 40 refl refl) (mark-or (eqb b 47) 41 _ (mark 41 refl refl) (mark-or (eqb b 37) 42 _ (mark 42 refl refl) (mark-or (eqb b 94) 43 0 (mark 43 refl refl) (mark 0 refl refl)))))))))))))))))))))))))))))

pub marked : (c : ℕ) → Mark c → has_class WHITE c ≡ false
unfolding has_class
marked c (mark _ h k) = rw (h, k)

pub white-three : (in_run WHITE 32 ≡ white 32) × ((in_run WHITE 9 ≡ white 9) × (in_run WHITE 10 ≡ white 10))
unfolding white in_run has_class class_of
white-three = (refl, (refl, refl))

pub white-not : (b : ℕ) → eqb b 32 ≡ false → eqb b 9 ≡ false → eqb b 10 ≡ false → white b ≡ false
unfolding white
white-not b h k l = rw (h, k, l)

pub class-not : (b : ℕ) → has_class WHITE (class_of b) ≡ false → in_run WHITE b ≡ false
unfolding in_run
class-not b h = h

-- the inversion of a byte that is no backslash
pub data Began (x : ℕ) (xs ys : List ℕ) : Type 0 where
  began : (zs : List ℕ) → ys ≡ x ∷ zs → Gives xs zs → Began x xs ys

pub plain-began : (all ys : List ℕ) → Gives all ys → (x : ℕ) (xs : List ℕ) → all ≡ x ∷ xs → (x ≡ 92 → ⊥) → Began x xs ys
plain-began _ _ ends x xs e n = let z : ◌≡◌ {A = ℕ} 0 1 = cc in let no : ⊥ = omega (arith, z) in absurd no
plain-began _ _ (plain b us vs p g) x xs e n = let z : b ≡ x = cc in let w : us ≡ xs = cc in began vs (ap (λ (c : ℕ). c ∷ vs) z) (subst (λ (l : List ℕ). Gives l vs) w g)
plain-began _ _ (control b c us vs k g) x xs e n = let z : x ≡ 92 = cc in absurd (n z)
plain-began _ _ (joined us zs vs d g) x xs e n = let z : x ≡ 92 = cc in absurd (n z)
plain-began _ _ (one_more c us vs o h l g) x xs e n = let z : x ≡ 92 = cc in absurd (n z)
plain-began _ _ (three b c d us vs o p q h k g) x xs e n = let z : x ≡ 92 = cc in absurd (n z)
plain-began _ _ (zero-1 us vs l g) x xs e n = let z : x ≡ 92 = cc in absurd (n z)
plain-began _ _ (zero-2 us vs l g) x xs e n = let z : x ≡ 92 = cc in absurd (n z)
plain-began _ _ (zero-3 us vs g) x xs e n = let z : x ≡ 92 = cc in absurd (n z)
plain-began _ _ (other b us vs o g) x xs e n = let z : x ≡ 92 = cc in absurd (n z)

module _ (s : List ℕ) (e : ℕ) (k : e ≤ length s) where
  pub between-two : (i : ℕ) → i + 2 ≤ e → between s i e ≡ get_or s i 0 ∷ get_or s (i + 1) 0 ∷ between s (i + 2) e
  between-two i h =
      let z : i + 1 + 1 ≡ i + 2 = omega arith in
      let p : between s (i + 1) e ≡ get_or s (i + 1) 0 ∷ between s (i + 1 + 1) e = between-one s (i + 1) e (omega (arith, h)) k in
      let q : between s (i + 1) e ≡ get_or s (i + 1) 0 ∷ between s (i + 2) e = rw z at p in
      between-one s i e (omega (arith, h)) k ∙ ap (λ (l : List ℕ). get_or s i 0 ∷ l) q

  pub between-three : (i : ℕ) → i + 3 ≤ e → between s i e ≡ get_or s i 0 ∷ get_or s (i + 1) 0 ∷ get_or s (i + 2) 0 ∷ between s (i + 3) e
  between-three i h =
      let z : i + 2 + 1 ≡ i + 3 = omega arith in
      let p : between s (i + 2) e ≡ get_or s (i + 2) 0 ∷ between s (i + 2 + 1) e = between-one s (i + 2) e (omega (arith, h)) k in
      let q : between s (i + 2) e ≡ get_or s (i + 2) 0 ∷ between s (i + 3) e = rw z at p in
      between-two i (omega (arith, h)) ∙ ap (λ (l : List ℕ). get_or s i 0 ∷ get_or s (i + 1) 0 ∷ l) q

  pub between-four : (i : ℕ) → i + 4 ≤ e → between s i e ≡ get_or s i 0 ∷ get_or s (i + 1) 0 ∷ get_or s (i + 2) 0 ∷ get_or s (i + 3) 0 ∷ between s (i + 4) e
  between-four i h =
      let z : i + 3 + 1 ≡ i + 4 = omega arith in
      let p : between s (i + 3) e ≡ get_or s (i + 3) 0 ∷ between s (i + 3 + 1) e = between-one s (i + 3) e (omega (arith, h)) k in
      let q : between s (i + 3) e ≡ get_or s (i + 3) 0 ∷ between s (i + 4) e = rw z at p in
      between-three i (omega (arith, h)) ∙ ap (λ (l : List ℕ). get_or s i 0 ∷ get_or s (i + 1) 0 ∷ get_or s (i + 2) 0 ∷ l) q

  pub two-not : (i : ℕ) → i ≤ e → octal (get_or s i 0) ≡ false → two_octal (between s i e) ≡ false
  two-not i h f =
      split (ltb i e) (λ l. rw (between-one s i e (ltb-true _ _ l) k, f))
      (λ l. let z : i ≡ e = omega (arith, h, ltb-false i e l) in rw (z, between_none s e))

  pub two-not-second : (i : ℕ) → i ≤ e → octal (get_or s (i + 1) 0) ≡ false → two_octal (between s i e) ≡ false
  two-not-second i h f =
      split (ltb i e) (λ l. rw (between-one s i e (ltb-true _ _ l) k)
      (chosen (λ (t : Bool). t ≡ false) (octal (get_or s i 0)) _ false (λ o. leads-not s octal (i + 1) e (omega (arith, ltb-true i e l)) k f) (λ o. refl)))
      (λ l. let z : i ≡ e = omega (arith, h, ltb-false i e l) in rw (z, between_none s e))

pub control-is : (b : ℕ) → eqb (U.control b) 0 ≡ false → Control b (U.control b)
unfolding U.control
control-is b =
    chosen On (eqb b 110) 10 _ (λ e f. rw (eqb-true b 110 e) E.newline)
    (λ e. chosen On (eqb b 114) 13 _ (λ f g. rw (eqb-true b 114 f) E.return)
    (λ f. chosen On (eqb b 116) 9 _ (λ g h. rw (eqb-true b 116 g) E.tab)
    (λ g. chosen On (eqb b 102) 12 0 (λ h j. rw (eqb-true b 102 h) E.feed) (λ h j. clash refl j))))
  where
    On : ℕ → Type 0
    On c = eqb c 0 ≡ false → Control b c

-- a byte of no control escape is none of n r t f
pub no-control : (b c n : ℕ) → U.control b ≡ 0 → U.control c ≡ n → 0 < n → b ≡ c → ⊥
no-control b c n h k l e = let z : U.control c ≡ 0 = rw e at h in omega (arith, z, k, l)

pub controls : (U.control 110 ≡ 10) × ((U.control 114 ≡ 13) × ((U.control 116 ≡ 9) × (U.control 102 ≡ 12)))
unfolding U.control
controls = (refl, (refl, (refl, refl)))
