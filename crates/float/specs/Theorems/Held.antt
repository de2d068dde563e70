-- Every float that is written or computed is one that 32 bits hold, so its bits say it. Assumes nothing.
use Rattle.std.specs.Prelude.{◌≡◌, Bool, true, false, List, [], ◌∷◌, ◌++◌, ℕ, zero, suc, ◌+◌, ◌^◌, ◌<◌, T, eqb, ltb, leb, length, get_or, take, drop, pos, Float, None, Some}
use Rattle.std.specs.Float.{binary32}
use Rattle.std.specs.Float.Ieee.{add, sub, mul, div, neg, eq, of_int, fits, of_bits, to_bits}
use Rattle.std.specs.Float.Ieee.Fits.{add-fits, sub-fits, mul-fits, div-fits, neg-fits, round-fits}
use Rattle.std.specs.Float.Ieee.Bits.{of_bits-to_bits, to_bits-lt}
use Rattle.std.proofs.Common.{lt-ltb}
use Rattle.text.specs.Choice.{pick}
use Rattle.text.specs.Scan.{run}
use Rattle.text.specs.Class.{in_class, digit}
use Rattle.text.specs.Digits.{value}
use Rattle.float.specs.Bits.{float_at}
use Rattle.float.specs.Decimal.{decimal}
use Rattle.float.specs.Written.{nought, amount_of, with_fraction, unsigned, float_of}
use Rattle.float.specs.Operations.{Computed, is_finite, checked, plus, minus, times, over, negated, one, raised_from, raised, power_from, power}

abbrev pub Fitting : Float → Type 0
Fitting x = T (fits binary32 x)

-- such a float is what its bits say
pub float_back : (x : Float) → Fitting x → float_at (to_bits binary32 x) ≡ x
unfolding float_at
float_back x h = let l : to_bits binary32 x < 4294967296 = to_bits-lt binary32 x h in rw (lt-ltb (to_bits binary32 x) 4294967296 l) (of_bits-to_bits binary32 x h)

-- what is written
pick-fits : (t : Bool) (x y : Float) → Fitting x → Fitting y → Fitting (pick t x y)
pick-fits true x y h k = h
pick-fits false x y h k = k

nought-fits : Fitting nought
unfolding fits of_bits
nought-fits = tt

decimal-fits : (s : Bool) (d k : ℕ) → Fitting (decimal s d k)
unfolding decimal
decimal-fits s d k = round-fits binary32 s d (10 ^ k)

amount-fits : (s : Bool) (w f : List ℕ) → Fitting (amount_of s w f)
unfolding amount_of
amount-fits s w f = pick-fits (ltb 18 (length w + length f)) nought (decimal s (value (w ++ f)) (length f)) nought-fits (decimal-fits s (value (w ++ f)) (length f))

fraction-fits : (s : Bool) (w f : List ℕ) → Fitting (with_fraction s w f)
unfolding with_fraction
fraction-fits s w f = pick-fits (eqb (run (in_class digit) f) 0) _ _ nought-fits (pick-fits (ltb (run (in_class digit) f) (length f)) _ _ nought-fits (amount-fits s w f))

unsigned-fits : (s : Bool) (b : List ℕ) → Fitting (unsigned s b)
unfolding unsigned
unsigned-fits s b =
    pick-fits (eqb (run (in_class digit) b) 0) _ _ nought-fits
    (pick-fits (leb (length b) (run (in_class digit) b)) _ _ (amount-fits s b [])
    (pick-fits (eqb (get_or b (run (in_class digit) b) 0) 46) _ _ (fraction-fits s (take (run (in_class digit) b) b) (drop (run (in_class digit) b + 1) b)) nought-fits))

pub written-fits : (b : List ℕ) → Fitting (float_of b)
unfolding float_of
written-fits [] = nought-fits
written-fits (b ∷ bs) = pick-fits (eqb b 45) _ _ (unsigned-fits true bs) (unsigned-fits false (b ∷ bs))

-- what is computed, whatever the operands are; "-" alone asks it of its operand
abbrev pub Held : Computed → Type 0
Held (Some x) = Fitting x
Held None = Unit

pick-held : (t : Bool) (v w : Computed) → Held v → Held w → Held (pick t v w)
pick-held true v w h k = h
pick-held false v w h k = k

checked-held : (x : Float) → Fitting x → Held (checked x)
unfolding checked
checked-held x h = pick-held (is_finite x) (Some x) None h tt

pub plus-held : (a b : Float) → Held (plus a b)
unfolding plus
plus-held a b = checked-held (add binary32 a b) (add-fits binary32 a b)

pub minus-held : (a b : Float) → Held (minus a b)
unfolding minus
minus-held a b = checked-held (sub binary32 a b) (sub-fits binary32 a b)

pub times-held : (a b : Float) → Held (times a b)
unfolding times
times-held a b = checked-held (mul binary32 a b) (mul-fits binary32 a b)

pub over-held : (a b : Float) → Held (over a b)
unfolding over
over-held a b = checked-held (div binary32 a b) (div-fits binary32 a b)

pub negated-held : (a : Float) → Fitting a → Held (negated a)
unfolding negated
negated-held a h = checked-held (neg a) (neg-fits binary32 a h)

raised_from-held : (n : ℕ) (x v : Float) → Fitting v → Held (raised_from n x v)
unfolding raised_from
raised_from-held zero x v h = h
raised_from-held (suc n) x v h = pick-held (is_finite (mul binary32 v x)) (raised_from n x (mul binary32 v x)) None (raised_from-held n x (mul binary32 v x) (mul-fits binary32 v x)) tt

one-fits : Fitting one
unfolding fits
one-fits = tt

raised-held : (n : ℕ) (x : Float) → Held (raised n x)
unfolding raised
raised-held n x = raised_from-held n x one one-fits

power_from-held : (k n : ℕ) (x y : Float) → Held (power_from k n x y)
unfolding power_from
power_from-held zero n x y = tt
power_from-held (suc k) n x y = pick-held (eq (of_int binary32 (pos n)) y) (raised n x) (power_from k (suc n) x y) (raised-held n x) (power_from-held k (suc n) x y)

pub power-held : (x y : Float) → Held (power x y)
unfolding power
power-held x y = power_from-held 65 0 x y
