-- "a float exponent whose value is a whole number 0 to 64": `eq (of_int binary32 (pos n)) y` says, for n up to 64, that y is the number n. Assumes nothing.
use Rattle.std.specs.Prelude.{◌≡◌, refl, ◌⊎◌, Bool, true, false, ◌||◌, ℕ, ◌*◌, ◌≤◌, ◌<◌, T, eqb, pos, Float}
use Rattle.std.proofs.Common.{sym, ap, ◌∙◌, subst, inl, inr, true≢false, mul-one, mul_right_comm, le_trans, zero-mul, eqb→eq, lit≤}
use Rattle.std.specs.Bool.{beq}
use Rattle.std.proofs.Math.Nat.{eq_of_mul-eq-mul_right}
use Rattle.std.specs.Float.{nan, inf, fin, binary32}
use Rattle.std.specs.Float.Ieee.{up, down, round, eq, of_int}
use Rattle.std.specs.Float.Ieee.Fits.{down_pos, up_pos, and_l, and_r, and_i, eq→eqb}
use Rattle.std.specs.Float.Ieee.Exact.{HasValue}
use Rattle.std.specs.Float.Ieee.Back.{round_whole}

-- y is the whole number n: m * 2 ^ e is n, and it is not negative unless it is 0
abbrev pub IsWhole : ℕ → Float → Type 0
IsWhole n nan = ⊥
IsWhole n (inf s) = ⊥
IsWhole n (fin s m e) = (m * up e ≡ n * down e) × ((s ≡ false) ⊎ (m ≡ 0))

of_int_is : (n : ℕ) → of_int binary32 (pos n) ≡ round binary32 false n 1
unfolding of_int
of_int_is n = refl

same : (f : Float) (n : ℕ) (y : Float) → HasValue f false n 1 → T (eq f y) → IsWhole n y
unfolding eq
same nan n y v h = absurd v
same (inf t) n y v h = absurd v
same (fin t m e) n nan v h = absurd h
same (fin t m e) n (inf u) v h = absurd h
same (fin true m e) n (fin u k d) v h = absurd (true≢false v.0)
same (fin false m e) n (fin u k d) v h = (number, sign u (and_r (eqb (m * up e * down d) (k * up d * down e)) (beq false u || eqb (m * up e * down d) 0) h))
  where
    equal : m * up e * down d ≡ k * up d * down e
    equal = eqb→eq (m * up e * down d) (k * up d * down e) (and_l (eqb (m * up e * down d) (k * up d * down e)) (beq false u || eqb (m * up e * down d) 0) h)

    number : k * up d ≡ n * down d
    number = eq_of_mul-eq-mul_right (down e) (down_pos e) (k * up d) (n * down d) (sym equal ∙ ap (λ (z : ℕ). z * down d) (sym (mul-one (m * up e)) ∙ v.1) ∙ mul_right_comm n (down e) (down d))

    nothing : (a b : ℕ) → 0 < b → a * b ≡ 0 → a ≡ 0
    nothing a b B z = eq_of_mul-eq-mul_right b B a 0 (z ∙ sym (zero-mul b))

    sign : (u : Bool) → T (beq false u || eqb (m * up e * down d) 0) → (u ≡ false) ⊎ (k ≡ 0)
    sign false t = inl refl
    sign true t = inr (nothing k (up d) (up_pos d) (nothing (k * up d) (down e) (down_pos e) (sym equal ∙ eqb→eq (m * up e * down d) 0 t)))

back : (f : Float) (n : ℕ) (y : Float) → HasValue f false n 1 → IsWhole n y → T (eq f y)
unfolding eq
back nan n y v w = absurd v
back (inf t) n y v w = absurd v
back (fin t m e) n nan v w = absurd w
back (fin t m e) n (inf u) v w = absurd w
back (fin true m e) n (fin u k d) v w = absurd (true≢false v.0)
back (fin false m e) n (fin u k d) v w = and_i (eqb (m * up e * down d) (k * up d * down e)) (beq false u || eqb (m * up e * down d) 0) (eq→eqb equal) (sign u w.1)
  where
    mine : m * up e ≡ n * down e
    mine = sym (mul-one (m * up e)) ∙ v.1

    equal : m * up e * down d ≡ k * up d * down e
    equal = ap (λ (z : ℕ). z * down d) mine ∙ mul_right_comm n (down e) (down d) ∙ ap (λ (z : ℕ). z * down e) (sym w.0)

    sign : (u : Bool) → (u ≡ false) ⊎ (k ≡ 0) → T (beq false u || eqb (m * up e * down d) 0)
    sign false z = tt
    sign true (inl z) = absurd (true≢false z)
    sign true (inr z) = eq→eqb (equal ∙ ap (λ (q : ℕ). q * up d * down e) z ∙ ap (λ (q : ℕ). q * down e) (zero-mul (up d)) ∙ zero-mul (down e))

whole-value : (n : ℕ) → n ≤ 64 → HasValue (of_int binary32 (pos n)) false n 1
whole-value n h = subst (λ (f : Float). HasValue f false n 1) (sym (of_int_is n)) (round_whole binary32 false n (le_trans h (lit≤ tt)))

pub exponent-is : (n : ℕ) (y : Float) → n ≤ 64 → T (eq (of_int binary32 (pos n)) y) → IsWhole n y
exponent-is n y h t = same (of_int binary32 (pos n)) n y (whole-value n h) t

pub exponent-of : (n : ℕ) (y : Float) → n ≤ 64 → IsWhole n y → T (eq (of_int binary32 (pos n)) y)
exponent-of n y h w = back (of_int binary32 (pos n)) n y (whole-value n h) w

-- and there is one at most
pub exponent-only : (n m : ℕ) (y : Float) → IsWhole n y → IsWhole m y → n ≡ m
exponent-only n m nan v w = absurd v
exponent-only n m (inf s) v w = absurd v
exponent-only n m (fin s k e) v w = eq_of_mul-eq-mul_right (down e) (down_pos e) n m (sym v.0 ∙ w.0)
