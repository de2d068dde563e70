-- Working laws: the ways out of the functions that read a decimal number. The code holds a number at a limit; below it nothing is lost.
-- Assumes nothing.
use Rattle.std.specs.Prelude.{◌≡◌, refl, Bool, true, false, List, [], ◌∷◌, ℕ, ◌+◌, ◌-◌, ◌<◌, ◌≤◌, min, eqb, length, get_or, take, drop}
use Rattle.std.proofs.Common.{sym, ap, ◌∙◌, arith, not-suc-le-zero, length-drop, take_all, length-take-le}
use borrow.Author.Tests.{lt-ltb, le-ltb, le-leb, lt-leb, eq-eqb, ne_eqb, eqb-true, eqb-false}
use Rattle.text.specs.Choice.{pick, split}
use Rattle.text.specs.Scan.{run}
use Rattle.text.specs.Class.{in_class, digit}
use Rattle.text.specs.Digits.{value}
use Rattle.text.specs.Decimal.{integer, in_range, rounded_down, with_fraction, unsigned, decimal}
use Rattle.text.specs.Working.Holding.{most_held}
use Rattle.text.specs.declared.Integer.{Integer}

-- the ways out of `in_range`
module _ (n : Bool) (m : ℕ) where
  pub range-zero : m ≡ 0 → integer false 0 ≡ in_range n m
  unfolding in_range
  range-zero h = simp (eq-eqb _ _ h)

  module _ (nz : m ≡ 0 → ⊥) where
    pub range-below : n ≡ true → 2147483648 < m → integer false 0 ≡ in_range n m
    unfolding in_range
    range-below t h = simp (ne_eqb _ _ nz, t, lt-ltb _ _ h)

    pub range-negative : n ≡ true → m ≤ 2147483648 → integer true m ≡ in_range n m
    unfolding in_range
    range-negative t h = simp (ne_eqb _ _ nz, t, le-ltb _ _ h)

    pub range-above : n ≡ false → 2147483647 < m → integer false 0 ≡ in_range n m
    unfolding in_range
    range-above t h = simp (ne_eqb _ _ nz, t, lt-ltb _ _ h)

    pub range-positive : n ≡ false → m ≤ 2147483647 → integer false m ≡ in_range n m
    unfolding in_range
    range-positive t h = simp (ne_eqb _ _ nz, t, le-ltb _ _ h)

-- a number held at the limit is in range just where it is
held-range : (n : Bool) (m m' : ℕ) → (m ≡ m' → ⊥) → 2147483648 < m → 2147483648 < m' → in_range n m ≡ in_range n m'
unfolding in_range
held-range true m m' d h k = rw (ne_eqb m 0 (λ z. omega arith), ne_eqb m' 0 (λ z. omega arith), lt-ltb 2147483648 m h, lt-ltb 2147483648 m' k)
held-range false m m' d h k =
    rw (ne_eqb m 0 (λ z. omega arith), ne_eqb m' 0 (λ z. omega arith), lt-ltb 2147483647 m (omega arith), lt-ltb 2147483647 m' (omega arith))

held_same : (n : Bool) (m m' : ℕ) → m ≡ m' → in_range n m ≡ in_range n m'
held_same n m m' e = rw e

held-either : (n : Bool) (m m' : ℕ) → min m 2147483649 ≡ min m' 2147483649 → in_range n m ≡ in_range n m'
held-either n m m' e =
    split (eqb m m') (λ t. held_same n m m' (eqb-true m m' t))
    (λ t. let d : m ≡ m' → ⊥ = eqb-false m m' t in held-range n m m' d (omega arith) (omega arith))

-- holding the fraction, or the whole part, loses nothing
fraction-held : (f : ℕ) → eqb (min f most_held) 0 ≡ eqb f 0
fraction-held f =
    split (eqb f 0)
    (λ t. let z : f ≡ 0 = eqb-true f 0 t in rw t (eq-eqb (min f most_held) 0 (omega arith)))
    (λ t. let z : f ≡ 0 → ⊥ = eqb-false f 0 t in rw t (ne_eqb (min f most_held) 0 (λ q. omega arith)))

part_held : (n : Bool) (w f : ℕ) → rounded_down n w (min f most_held) ≡ rounded_down n w f
unfolding rounded_down
part_held n w f = rw (fraction-held f)

step-held : (b : Bool) (w : ℕ) → min (pick b (min w most_held) (min w most_held + 1)) 2147483649 ≡ min (pick b w (w + 1)) 2147483649
step-held true w = omega arith
step-held false w = omega arith

whole-held : (n : Bool) (w f : ℕ) → rounded_down n (min w most_held) f ≡ rounded_down n w f
unfolding rounded_down
whole-held true w f = held-either true _ _ (step-held (eqb f 0) w)
whole-held false w f = held-either false (min w most_held) w (omega arith)

rest-held : (n : Bool) (w : ℕ) (ds : List ℕ) → with_fraction n (min w most_held) ds ≡ with_fraction n w ds
unfolding with_fraction
rest-held n w ds = rw (whole-held n w (value ds))

-- the ways out of `rounded_down`
module _ (n : Bool) (w f : ℕ) where
  pub down-plain : (r : Integer) → n ≡ false → r ≡ in_range n w → r ≡ rounded_down n w f
  unfolding rounded_down
  down-plain r t e = e ∙ rw t

  module _ (t : n ≡ true) where
    pub down-whole : (r : Integer) → f ≡ 0 → r ≡ in_range n w → r ≡ rounded_down n w f
    unfolding rounded_down
    down-whole r z e = e ∙ simp (t, eq-eqb _ _ z)

    module _ (nz : f ≡ 0 → ⊥) where
      pub down_out : 2147483648 ≤ w → integer false 0 ≡ rounded_down n w f
      unfolding rounded_down in_range
      down_out h = simp (t, ne_eqb _ _ nz, ne_eqb (w + 1) 0 (λ q. omega arith), lt-ltb 2147483648 (w + 1) (omega arith))

      pub down-part : (r : Integer) → r ≡ in_range n (w + 1) → r ≡ rounded_down n w f
      unfolding rounded_down
      down-part r e = e ∙ simp (t, ne_eqb _ _ nz)

      -- one further, held where a `u64` ends
      pub down-further : (r : Integer) → r ≡ in_range n (min (w + 1) 18446744073709551615) → r ≡ rounded_down n w f
      down-further r e = down-part r (e ∙ held-either n (min (w + 1) 18446744073709551615) (w + 1) (omega arith))

-- the ways out of `with_fraction`
module _ (n : Bool) (w : ℕ) (ds : List ℕ) (j : ℕ) (je : j ≡ run (in_class digit) ds) where
  pub fraction-none : j ≡ 0 → integer false 0 ≡ with_fraction n w ds
  unfolding with_fraction
  fraction-none h = simp (sym je, eq-eqb _ _ h)

  module _ (nz : j ≡ 0 → ⊥) where
    pub fraction-more : j < length ds → integer false 0 ≡ with_fraction n w ds
    unfolding with_fraction
    fraction-more h = simp (sym je, ne_eqb _ _ nz, lt-ltb _ _ h)

    pub fraction-all : length ds ≤ j → (f : ℕ) (r : Integer) → f ≡ min (value ds) 4294967295 → r ≡ rounded_down n w f → r ≡ with_fraction n w ds
    unfolding with_fraction
    fraction-all h f r fe e = e ∙ rw fe (part_held n w (value ds) ∙ simp (sym je, ne_eqb _ _ nz, le-ltb _ _ h))

-- parts that are lent: a front, and all behind a place
pub front-room : (s : List ℕ) (k : ℕ) → k < length s → k ≡ length (take k s)
front-room s k h = sym (length-take-le k s (omega arith))

tail-is : (s : List ℕ) (k : ℕ) → take (length s - k) (drop k s) ≡ drop k s
tail-is s k = take_all (length s - k) (drop k s) (simp length-drop (omega arith))

-- the ways out of `without_sign`
module _ (n : Bool) (s : List ℕ) (k : ℕ) (ke : k ≡ run (in_class digit) s) where
  pub unsigned-none : k ≡ 0 → integer false 0 ≡ unsigned n s
  unfolding unsigned
  unsigned-none h = simp (sym ke, eq-eqb _ _ h)

  module _ (nz : k ≡ 0 → ⊥) where
    pub unsigned-all : length s ≤ k → (w : ℕ) (r : Integer) → w ≡ min (value s) 4294967295 → r ≡ rounded_down n w 0 → r ≡ unsigned n s
    unfolding unsigned
    unsigned-all h w r we e = e ∙ rw we (whole-held n (value s) 0 ∙ simp (sym ke, ne_eqb _ _ nz, le-leb _ _ h))

    module _ (more : k < length s) where
      pub unsigned-other : (get_or s k 0 ≡ 46 → ⊥) → integer false 0 ≡ unsigned n s
      unfolding unsigned
      unsigned-other h = simp (sym ke, ne_eqb _ _ nz, lt-leb _ _ more, ne_eqb _ _ h)

      pub unsigned-point : get_or s k 0 ≡ 46 → (w : ℕ) (r : Integer) → w ≡ min (value (take k s)) 4294967295 → r ≡ with_fraction n w (take (length s - (k + 1)) (drop (k + 1) s)) → r ≡ unsigned n s
      unfolding unsigned
      unsigned-point h w r we e =
          e ∙ rw (tail-is s (k + 1), we) (rest-held n (value (take k s)) (drop (k + 1) s) ∙ simp (sym ke, ne_eqb _ _ nz, lt-leb _ _ more, eq-eqb _ _ h))

-- the ways out of `decimal`
pub decimal-none : (s : List ℕ) → length s ≤ 0 → integer false 0 ≡ decimal s
unfolding decimal
decimal-none [] h = refl
decimal-none (b ∷ bs) h = absurd (not-suc-le-zero h)

pub decimal-minus : (s : List ℕ) (r : Integer) → 0 < length s → get_or s 0 0 ≡ 45 → r ≡ unsigned true (take (length s - 1) (drop 1 s)) → r ≡ decimal s
unfolding decimal
decimal-minus [] r h m e = absurd (not-suc-le-zero h)
decimal-minus (b ∷ bs) r h m e = e ∙ rw (tail-is (b ∷ bs) 1) (simp (eq-eqb _ _ m))

pub decimal-plain : (s : List ℕ) (r : Integer) → 0 < length s → (get_or s 0 0 ≡ 45 → ⊥) → r ≡ unsigned false s → r ≡ decimal s
unfolding decimal
decimal-plain [] r h m e = absurd (not-suc-le-zero h)
decimal-plain (b ∷ bs) r h m e = e ∙ simp (ne_eqb _ _ m)

pub decimal-signed : (s rest : List ℕ) (r : Integer) (b : ℕ) → s ≡ b ∷ rest → b ≡ 45 → r ≡ unsigned true rest → r ≡ decimal s
unfolding decimal
decimal-signed s rest r b h m e = e ∙ rw (h, m) refl

pub decimal-unsigned : (s rest : List ℕ) (r : Integer) (b : ℕ) → s ≡ b ∷ rest → (b ≡ 45 → ⊥) → r ≡ unsigned false s → r ≡ decimal s
unfolding decimal
decimal-unsigned s rest r b h m e = e ∙ rw h (sym (ap (λ (t : Bool). pick t (unsigned true rest) (unsigned false (b ∷ rest))) (ne_eqb b 45 m)))
