-- Working laws: the ways out of the functions that read a written float. Assumes nothing.
use Rattle.std.specs.Prelude.{◌≡◌, Bool, true, false, ℕ, zero, suc, ◌+◌, ◌-◌, ◌*◌, ◌^◌, ◌≤◌, ◌<◌, min, leb, length, get_or, take, drop, Float}
use Rattle.std.proofs.Math.Path.{refl, sym, ap}
use Rattle.std.proofs.Common.{◌∙◌, subst, not-suc-le-zero, le_of_suc-le-suc, add-zero, lt_of_lt_of_le, zero-add, le_antisymm, arith, add-one, length-drop, drop_of_length-le, drop-cons, take_all, pow-add, Fits}
use mathlib.Core.List.{List, [], ◌∷◌, ◌++◌}
use Rattle.std.specs.Int.{w64}
use borrow.Author.Tests.{lt-ltb, le-ltb, le-leb, lt-leb, eq-eqb, ne_eqb, leb-true}
use Rattle.text.specs.Choice.{split, clash}
use Rattle.text.specs.Scan.{run, past-front, past-within}
use Rattle.text.specs.Class.{in_class, digit, is_digit}
use Rattle.text.specs.Digits.{value, value_from}
use Rattle.float.specs.Decimal.{decimal}
use Rattle.float.specs.Written.{nought, amount_of, with_fraction, unsigned, float_of}
use Rattle.float.specs.Working.Converting.{ten-le}

-- what the parts require and give: nothing but digits, and the number behind v, which has m digits
unfoldable pub AllDigits : List ℕ → Type 0
AllDigits ds = run (in_class digit) ds ≡ length ds

pub record More (v m : ℕ) (ds : List ℕ) (r : ℕ) : Type 0 where
  pub is : r ≡ value_from v ds
  pub small : r < 10 ^ (m + length ds)

-- every byte of digits is a digit
suc-same : (a b : ℕ) → suc a ≡ suc b → a ≡ b
suc-same a b e = omega arith

never : (a : ℕ) → 0 ≡ suc a → ⊥
never a e = omega arith

pub head-is : (p : ℕ → Bool) (x : ℕ) (xs : List ℕ) → run p (x ∷ xs) ≡ length (x ∷ xs) → p x ≡ true
head-is p x xs e = split (p x) (λ t. t) (λ t. absurd (never (length xs) (rw t at e)))

pub tail-same : (p : ℕ → Bool) (x : ℕ) (xs : List ℕ) → run p (x ∷ xs) ≡ length (x ∷ xs) → run p xs ≡ length xs
tail-same p x xs e = suc-same (run p xs) (length xs) (rw (head-is p x xs e) at e)

passes : (p : ℕ → Bool) (xs : List ℕ) → run p xs ≡ length xs → (i : ℕ) → i < length xs → p (get_or xs i 0) ≡ true
passes p [] e i h = absurd (not-suc-le-zero h)
passes p (x ∷ xs) e zero h = head-is p x xs e
passes p (x ∷ xs) e (suc i) h = passes p xs (tail-same p x xs e) i (le_of_suc-le-suc h)

ten : (b : ℕ) → in_class digit b ≡ true → b - 48 < 10
unfolding in_class is_digit
ten b e = split (leb 48 b) (λ t. let h : b ≤ 57 = leb-true b 57 (rw t at e) in omega arith) (λ t. clash refl (sym (rw t at e)))

digit-is : (ds : List ℕ) (i d : ℕ) → AllDigits ds → i < length ds → d ≡ get_or ds i 0 - 48 → d < 10
unfolding AllDigits
digit-is ds i d a h e = subst (λ (z : ℕ). z < 10) (sym e) (ten (get_or ds i 0) (passes (in_class digit) ds a i h))

-- the loop
module _ (v m n i d : ℕ) (ds : List ℕ) (a : AllDigits ds) (h : i < length ds) (small : n < 10 ^ (m + i)) where
  pub more-fits : m + length ds ≤ 18 → Fits w64 (n * 10)
  more-fits l =
      let k : m + i ≤ 17 = omega arith in
      let t : 10 ^ (m + i) ≤ 10 ^ 17 = ten-le (m + i) 17 k in
      record { fits = omega arith }

  module _ (b : ℕ) (be : b ≡ get_or ds i 0 - 48) (de : d ≡ b) where
    e : d ≡ get_or ds i 0 - 48
    e = de ∙ be

    pub more-holds : m + length ds ≤ 18 → Fits w64 (n * 10 + d)
    more-holds l =
        let k : m + i ≤ 17 = omega arith in
        let t : 10 ^ (m + i) ≤ 10 ^ 17 = ten-le (m + i) 17 k in
        let u : d < 10 = digit-is ds i d a h e in
        record { fits = omega arith }

    pub more-small : n * 10 + d < 10 ^ (m + (i + 1))
    more-small =
        let u : d < 10 = digit-is ds i d a h e in
        let p : 10 ^ (m + (i + 1)) ≡ 10 ^ (m + i) * 10 = ap (λ (z : ℕ). 10 ^ z) again ∙ pow-add 10 (m + i) 1 in
        omega arith
      where
        again : m + (i + 1) ≡ m + i + 1
        again = omega arith

    pub more_same : value_from n (drop i ds) ≡ value_from v ds → value_from (n * 10 + d) (drop (i + 1) ds) ≡ value_from v ds
    unfolding value_from
    more_same q = sym (ap (value_from n) (drop-cons ds i 0 h) ∙ ap (λ (z : ℕ). value_from (n * 10 + z) (drop (suc i) ds)) (sym e) ∙ ap (λ (z : ℕ). value_from (n * 10 + d) (drop z ds)) (sym (add-one i))) ∙ q

pub more-first : (v m : ℕ) → v < 10 ^ m → v < 10 ^ (m + 0)
more-first v m h = rw (add-zero m) h

pub more-done : (v m n i : ℕ) (ds : List ℕ) → i ≤ length ds → length ds ≤ i → value_from n (drop i ds) ≡ value_from v ds → n < 10 ^ (m + i) → More v m ds n
unfolding value_from
more-done v m n i ds a b q l =
    let e : i ≡ length ds = omega arith in
    record { is = sym (ap (value_from n) (drop_of_length-le ds b)) ∙ q; small = subst (λ (z : ℕ). n < 10 ^ (m + z)) e l }

-- the ways out of `amount`
pub amount-few : (w f : List ℕ) (k : ℕ) → k ≡ min (length w + length f) (2 ^ 64 - 1) → k ≤ 18 → length w + length f ≤ 18
amount-few w f k e h = omega arith

module _ (n : Bool) (w f : List ℕ) where
  pub amount-over : (k : ℕ) → k ≡ min (length w + length f) (2 ^ 64 - 1) → 18 < k → nought ≡ amount_of n w f
  unfolding amount_of
  amount-over k e h = let l : 18 < length w + length f = omega arith in simp (lt-ltb _ _ l)

  module _ (l : length w + length f ≤ 18) (v z : ℕ) (hv : More 0 0 w v) (hz : More v (length w) f z) where
    joined : (xs ys : List ℕ) (a : ℕ) → value_from a (xs ++ ys) ≡ value_from (value_from a xs) ys
    unfolding value_from
    joined [] ys a = refl
    joined (x ∷ xs) ys a = joined xs ys (a * 10 + (x - 48))

    whole_is : z ≡ value (w ++ f)
    unfolding value
    whole_is = hz.is ∙ ap (λ (a : ℕ). value_from a f) hv.is ∙ sym (joined w f 0)

    pub amount-is : (r : Float) → r ≡ decimal n z (length f) → r ≡ amount_of n w f
    unfolding amount_of
    amount-is r e = e ∙ ap (λ (a : ℕ). decimal n a (length f)) whole_is ∙ simp (le-ltb _ _ l)

-- of what `to_float` and `more` require
pub whole-small : (w : List ℕ) (v : ℕ) → More 0 0 w v → v < 10 ^ length w
whole-small w v h = subst (λ (z : ℕ). v < 10 ^ z) (zero-add (length w)) h.small

pub value-small : (w f : List ℕ) (v z : ℕ) → length w + length f ≤ 18 → More v (length w) f z → z < 1000000000000000000
value-small w f v z l h = lt_of_lt_of_le h.small (ten-le (length w + length f) 18 l)

-- digits
pub run_length : (p : ℕ → Bool) (xs : List ℕ) → run p xs ≤ length xs
run_length p xs = subst (λ (z : ℕ). z ≤ length xs) (past-front p xs 0) (past-within p xs 0 (omega arith))

pub digits-all : (ds : List ℕ) (j : ℕ) → j ≡ run (in_class digit) ds → length ds ≤ j → AllDigits ds
unfolding AllDigits
digits-all ds j e h = le_antisymm (run_length (in_class digit) ds) (subst (λ (z : ℕ). length ds ≤ z) e h)

pub run-front : (p : ℕ → Bool) (xs : List ℕ) → run p (take (run p xs) xs) ≡ length (take (run p xs) xs)
run-front p [] = refl
run-front p (x ∷ xs) = split (p x) (λ t. rw (t, t) (ap suc (run-front p xs))) (λ t. rw t refl)

pub digits-front : (s : List ℕ) (k : ℕ) → k ≡ run (in_class digit) s → AllDigits (take k s)
unfolding AllDigits
digits-front s k e = subst (λ (z : ℕ). run (in_class digit) (take z s) ≡ length (take z s)) (sym e) (run-front (in_class digit) s)

pub no-digits : AllDigits []
unfolding AllDigits
no-digits = refl

-- the ways out of `with_fraction`
module _ (n : Bool) (w ds : List ℕ) (j : ℕ) (je : j ≡ run (in_class digit) ds) where
  pub fraction-none : j ≡ 0 → nought ≡ with_fraction n w ds
  unfolding with_fraction
  fraction-none h = simp (sym je, eq-eqb _ _ h)

  module _ (nz : j ≡ 0 → ⊥) where
    pub fraction-more : j < length ds → nought ≡ with_fraction n w ds
    unfolding with_fraction
    fraction-more h = simp (sym je, ne_eqb _ _ nz, lt-ltb _ _ h)

    pub fraction-all : length ds ≤ j → (r : Float) → r ≡ amount_of n w ds → r ≡ with_fraction n w ds
    unfolding with_fraction
    fraction-all h r e = e ∙ simp (sym je, ne_eqb _ _ nz, le-ltb _ _ h)

-- the ways out of `without_sign`
tail-is : (s : List ℕ) (k : ℕ) → take (length s - k) (drop k s) ≡ drop k s
tail-is s k = take_all (length s - k) (drop k s) (simp length-drop (omega arith))

module _ (n : Bool) (s : List ℕ) (k : ℕ) (ke : k ≡ run (in_class digit) s) where
  pub unsigned-none : k ≡ 0 → nought ≡ unsigned n s
  unfolding unsigned
  unsigned-none h = simp (sym ke, eq-eqb _ _ h)

  module _ (nz : k ≡ 0 → ⊥) where
    pub unsigned-all : length s ≤ k → (r : Float) → r ≡ amount_of n s [] → r ≡ unsigned n s
    unfolding unsigned
    unsigned-all h r e = e ∙ simp (sym ke, ne_eqb _ _ nz, le-leb _ _ h)

    module _ (more : k < length s) where
      pub unsigned-other : (get_or s k 0 ≡ 46 → ⊥) → nought ≡ unsigned n s
      unfolding unsigned
      unsigned-other h = simp (sym ke, ne_eqb _ _ nz, lt-leb _ _ more, ne_eqb _ _ h)

      pub unsigned-point : get_or s k 0 ≡ 46 → (r : Float) → r ≡ with_fraction n (take k s) (take (length s - (k + 1)) (drop (k + 1) s)) → r ≡ unsigned n s
      unfolding unsigned
      unsigned-point h r e = e ∙ rw (tail-is s (k + 1)) (simp (sym ke, ne_eqb _ _ nz, lt-leb _ _ more, eq-eqb _ _ h))

-- the ways out of `to_float`
pub float-none : (s : List ℕ) (r : Float) → length s ≤ 0 → r ≡ unsigned false s → r ≡ float_of s
unfolding float_of unsigned
float-none [] r h e = e
float-none (b ∷ bs) r h e = absurd (not-suc-le-zero h)

pub float-minus : (s : List ℕ) (r : Float) → 0 < length s → get_or s 0 0 ≡ 45 → r ≡ unsigned true (take (length s - 1) (drop 1 s)) → r ≡ float_of s
unfolding float_of
float-minus [] r h m e = absurd (not-suc-le-zero h)
float-minus (b ∷ bs) r h m e = e ∙ rw (tail-is (b ∷ bs) 1) (simp (eq-eqb _ _ m))

pub float_plain : (s : List ℕ) (r : Float) → 0 < length s → (get_or s 0 0 ≡ 45 → ⊥) → r ≡ unsigned false s → r ≡ float_of s
unfolding float_of
float_plain [] r h m e = absurd (not-suc-le-zero h)
float_plain (b ∷ bs) r h m e = e ∙ simp (ne_eqb _ _ m)
