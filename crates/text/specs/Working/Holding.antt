-- Working definition: a decimal number held at a limit while its digits are read, and what it is. Assumes nothing.
use Rattle.std.specs.Prelude.{◌≡◌, refl, Bool, true, false, List, [], ◌∷◌, ℕ, ◌+◌, ◌-◌, ◌*◌, ◌<◌, ◌≤◌, min, length, get_or, drop, fold}
use Rattle.std.proofs.Math.Path.{sym}
use Rattle.std.proofs.Common.{◌∙◌, add-one, drop_of_length-le, drop-cons}
use native.Mathlib.Omega.{arith}
use Rattle.text.specs.Class.{is_digit, in_class}
use Rattle.text.specs.Digits.{digits_at, value_from, value}

-- where the code holds a number: above 2147483649, from which on none is in range, also below 0
abbrev pub most_held : ℕ
most_held = 4294967295

-- one digit more, held there
unfoldable pub hold : ℕ → ℕ → ℕ
hold v b = min (min v most_held * 10 + (b - 48)) most_held

unfoldable pub hold_all : ℕ → List ℕ → ℕ
hold_all v [] = v
hold_all v (b ∷ bs) = hold_all (hold v b) bs

hold-step : (v b : ℕ) → hold (min v most_held) b ≡ min (v * 10 + (b - 48)) most_held
unfolding hold
hold-step v b = omega arith

hold-all : (bs : List ℕ) (v : ℕ) → hold_all (min v most_held) bs ≡ min (value_from v bs) most_held
unfolding hold_all value_from
hold-all [] v = refl
hold-all (b ∷ bs) v = rw (hold-step v b) (hold-all bs (v * 10 + (b - 48)))

-- what the loop over a string gives
unfoldable pub hold_rest : List ℕ → ℕ → ℕ → ℕ
hold_rest s i v = hold_all v (drop i s)

pub hold-start : (s : List ℕ) → hold_rest s 0 0 ≡ min (value s) most_held
unfolding hold_rest value
hold-start s = hold-all s 0

module _ (s : List ℕ) (i v r : ℕ) (inv : hold_rest s i v ≡ r) where
  pub hold-more : i < length s → (w : ℕ) → w ≡ hold v (get_or s i 0) → hold_rest s (i + 1) w ≡ r
  unfolding hold_rest hold_all
  hold-more h w e = rw (add-one i, e) (rw (drop-cons s i 0 h) at inv)

  pub hold-end : length s ≤ i → v ≡ r
  unfolding hold_rest hold_all
  hold-end h = rw (drop_of_length-le s h) at inv

-- the same over the digits that start at a place
unfoldable pub hold_digits : List ℕ → ℕ → ℕ → ℕ
hold_digits s i v = hold_all v (digits_at s i)

pub digits-start : (s : List ℕ) (at : ℕ) → hold_digits s at 0 ≡ min (value (digits_at s at)) most_held
unfolding hold_digits value
digits-start s at = hold-all (digits_at s at) 0

module _ (s : List ℕ) (i v r : ℕ) (inv : hold_digits s i v ≡ r) where
  pub digits-end : length s ≤ i → v ≡ r
  unfolding hold_digits hold_all digits_at
  digits-end h = rw (drop_of_length-le s h) at inv

  module _ (h : i < length s) (t : Bool) (te : t ≡ is_digit (get_or s i 0)) where
    pub digits_more : t ≡ true → (w : ℕ) → w ≡ hold v (get_or s i 0) → hold_digits s (i + 1) w ≡ r
    unfolding hold_digits hold_all digits_at in_class
    digits_more tt w e = rw (add-one i, e) (rw (drop-cons s i 0 h, sym te ∙ tt) at inv)

    pub digits-stop : t ≡ false → v ≡ r
    unfolding hold_digits hold_all digits_at in_class
    digits-stop tf = rw (drop-cons s i 0 h, sym te ∙ tf) at inv

-- the ways out of `hold`
module _ (v b : ℕ) where
  pub hold-high : 429496729 < v → 4294967295 ≡ hold v b
  unfolding hold
  hold-high h = omega arith

  module _ (low : v ≤ 429496729) (d : ℕ) (de : d ≡ b - 48) where
    pub hold-over : 4294967295 < v * 10 + d → 4294967295 ≡ hold v b
    unfolding hold
    hold-over h = omega arith

    pub hold-in : v * 10 + d ≤ 4294967295 → v * 10 + d ≡ hold v b
    unfolding hold
    hold-in h = omega arith

-- the library's fold of that step
fold_all : (bs : List ℕ) (v : ℕ) → fold hold v bs ≡ hold_all v bs
unfolding hold_all
fold_all [] v = refl
fold_all (b ∷ bs) v = fold_all bs (hold v b)

pub held-fold : (s : List ℕ) → fold hold 0 s ≡ min (value s) most_held
unfolding value
held-fold s = fold_all s 0 ∙ hold-all s 0
