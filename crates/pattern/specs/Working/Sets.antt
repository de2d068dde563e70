-- The places of a tree: where a match can begin (first), end (last) and go on (follow), and whether it can be empty (nul).
-- A boundary of the string is described by two flags: it is the string's start, it is its end. "follow" is asked inside only, where both are false.
-- Assumes nothing.
use Rattle.std.specs.Prelude.{◌≡◌, Bool, true, ◌&&◌, ◌||◌, ℕ, ◌<◌, ◌≤◌, eqb}
use Rattle.std.proofs.Math.Path.{refl}
use Rattle.std.proofs.Math.Bool.{false}
use Rattle.std.proofs.Common.{arith}
use Rattle.std.proofs.Math.Logic.{⊎_elim}
use borrow.Author.Tests.{eqb-true}
use Rattle.text.specs.Choice.{clash}
use Rattle.pattern.specs.Working.Logic.{or_cases, and_left, and_right}
use Rattle.pattern.specs.Class.{Class, accepts}
use Rattle.pattern.specs.Tree.{Re, bol, eol, one, cat, alt, star, plus, opt}

unfoldable pub nul : Bool → Bool → Re → Bool
nul st en bol = st
nul st en eol = en
nul st en (one q c) = false
nul st en (cat a b) = nul st en a && nul st en b
nul st en (alt a b) = nul st en a || nul st en b
nul st en (star a) = true
nul st en (plus a) = nul st en a
nul st en (opt a) = true

unfoldable pub first : Bool → Bool → Re → ℕ → Bool
unfolding nul
first st en bol p = false
first st en eol p = false
first st en (one q c) p = eqb q p
first st en (cat a b) p = first st en a p || (nul st en a && first st en b p)
first st en (alt a b) p = first st en a p || first st en b p
first st en (star a) p = first st en a p
first st en (plus a) p = first st en a p
first st en (opt a) p = first st en a p

unfoldable pub last : Bool → Bool → Re → ℕ → Bool
unfolding nul
last st en bol p = false
last st en eol p = false
last st en (one q c) p = eqb q p
last st en (cat a b) p = last st en b p || (nul st en b && last st en a p)
last st en (alt a b) p = last st en a p || last st en b p
last st en (star a) p = last st en a p
last st en (plus a) p = last st en a p
last st en (opt a) p = last st en a p

unfoldable pub follow : Re → ℕ → ℕ → Bool
unfolding first last
follow bol p q = false
follow eol p q = false
follow (one at c) p q = false
follow (cat a b) p q = (follow a p q || follow b p q) || (last false false a p && first false false b q)
follow (alt a b) p q = follow a p q || follow b p q
follow (star a) p q = follow a p q || (last false false a p && first false false a q)
follow (plus a) p q = follow a p q || (last false false a p && first false false a q)
follow (opt a) p q = follow a p q

-- the places of the tree are lo or more and below hi, in order, and `ok` is their classes
pub data Fits (ok : ℕ → ℕ → Bool) : ℕ → ℕ → Re → Type 0 where
  f-bol : {lo hi : ℕ} → lo ≤ hi → Fits ok lo hi bol
  f-eol : {lo hi : ℕ} → lo ≤ hi → Fits ok lo hi eol
  f-one : {lo hi at : ℕ} {c : Class} → lo ≤ at → at < hi → ((b : ℕ) → ok at b ≡ accepts c b) → Fits ok lo hi (one at c)
  f-cat : {lo hi : ℕ} {a b : Re} (m : ℕ) → Fits ok lo m a → Fits ok m hi b → Fits ok lo hi (cat a b)
  f-alt : {lo hi : ℕ} {a b : Re} (m : ℕ) → Fits ok lo m a → Fits ok m hi b → Fits ok lo hi (alt a b)
  f-star : {lo hi : ℕ} {a : Re} → Fits ok lo hi a → Fits ok lo hi (star a)
  f-plus : {lo hi : ℕ} {a : Re} → Fits ok lo hi a → Fits ok lo hi (plus a)
  f-opt : {lo hi : ℕ} {a : Re} → Fits ok lo hi a → Fits ok lo hi (opt a)

pub record In (lo hi p : ℕ) : Type 0 where
  pub low : lo ≤ p
  pub high : p < hi

pub wide : {lo hi : ℕ} (lo' hi' : ℕ) {p : ℕ} → lo' ≤ lo → hi ≤ hi' → In lo hi p → In lo' hi' p
wide lo' hi' h k i = record { low = omega (arith, i.low); high = omega (arith, i.high) }

pub apart : {P : Type 0} {lo m hi p : ℕ} → In lo m p → In m hi p → P
apart i j = absurd (omega (arith, i.high, j.low))

pub record Ends (lo hi p q : ℕ) : Type 0 where
  pub start : In lo hi p
  pub stop : In lo hi q

module _ {ok : ℕ → ℕ → Bool} where
  pub fits_le : {lo hi : ℕ} {r : Re} → Fits ok lo hi r → lo ≤ hi
  fits_le (f-bol h) = h
  fits_le (f-eol h) = h
  fits_le (f-one h k e) = omega arith
  fits_le (f-cat m f g) = omega (arith, fits_le f, fits_le g)
  fits_le (f-alt m f g) = omega (arith, fits_le f, fits_le g)
  fits_le (f-star f) = fits_le f
  fits_le (f-plus f) = fits_le f
  fits_le (f-opt f) = fits_le f

  in_left : {lo m hi p : ℕ} {b : Re} → Fits ok m hi b → In lo m p → In lo hi p
  in_left {lo} {m} {hi} g i = wide lo hi (omega arith) (fits_le g) i

  in_right : {lo m hi p : ℕ} {a : Re} → Fits ok lo m a → In m hi p → In lo hi p
  in_right {lo} {m} {hi} f i = wide lo hi (fits_le f) (omega arith) i

  pub first-in : (st en : Bool) {lo hi : ℕ} {r : Re} → Fits ok lo hi r → (p : ℕ) → first st en r p ≡ true → In lo hi p
  unfolding first
  first-in st en (f-bol h) p e = clash e refl
  first-in st en (f-eol h) p e = clash e refl
  first-in st en (f-one {at = at} h k o) p e = record { low = omega (arith, eqb-true at p e); high = omega (arith, eqb-true at p e) }
  first-in st en (f-cat {a = a} {b = b} m f g) p e = ⊎_elim (λ h. in_left g (first-in st en f p h)) (λ h. in_right f (first-in st en g p (and_right (nul st en a) (first st en b p) h))) (or_cases _ _ e)
  first-in st en (f-alt m f g) p e = ⊎_elim (λ h. in_left g (first-in st en f p h)) (λ h. in_right f (first-in st en g p h)) (or_cases _ _ e)
  first-in st en (f-star f) p e = first-in st en f p e
  first-in st en (f-plus f) p e = first-in st en f p e
  first-in st en (f-opt f) p e = first-in st en f p e

  pub last-in : (st en : Bool) {lo hi : ℕ} {r : Re} → Fits ok lo hi r → (p : ℕ) → last st en r p ≡ true → In lo hi p
  unfolding last
  last-in st en (f-bol h) p e = clash e refl
  last-in st en (f-eol h) p e = clash e refl
  last-in st en (f-one {at = at} h k o) p e = record { low = omega (arith, eqb-true at p e); high = omega (arith, eqb-true at p e) }
  last-in st en (f-cat {a = a} {b = b} m f g) p e = ⊎_elim (λ h. in_right f (last-in st en g p h)) (λ h. in_left g (last-in st en f p (and_right (nul st en b) (last st en a p) h))) (or_cases _ _ e)
  last-in st en (f-alt m f g) p e = ⊎_elim (λ h. in_left g (last-in st en f p h)) (λ h. in_right f (last-in st en g p h)) (or_cases _ _ e)
  last-in st en (f-star f) p e = last-in st en f p e
  last-in st en (f-plus f) p e = last-in st en f p e
  last-in st en (f-opt f) p e = last-in st en f p e

  ends-left : {lo m hi p q : ℕ} {b : Re} → Fits ok m hi b → Ends lo m p q → Ends lo hi p q
  ends-left g i = record { start = in_left g i.start; stop = in_left g i.stop }

  ends-right : {lo m hi p q : ℕ} {a : Re} → Fits ok lo m a → Ends m hi p q → Ends lo hi p q
  ends-right f i = record { start = in_right f i.start; stop = in_right f i.stop }

  pub follow-in : {lo hi : ℕ} {r : Re} → Fits ok lo hi r → (p q : ℕ) → follow r p q ≡ true → Ends lo hi p q
  unfolding follow
  follow-in (f-bol h) p q e = clash e refl
  follow-in (f-eol h) p q e = clash e refl
  follow-in (f-one h k o) p q e = clash e refl
  follow-in (f-cat {a = a} {b = b} m f g) p q e = ⊎_elim
      (λ h. ⊎_elim (λ h'. ends-left g (follow-in f p q h')) (λ h'. ends-right f (follow-in g p q h')) (or_cases _ _ h))
      (λ h. record { start = in_left g (last-in false false f p (and_left (last false false a p) (first false false b q) h)); stop = in_right f (first-in false false g q (and_right (last false false a p) (first false false b q) h)) }) (or_cases _ _ e)
  follow-in (f-alt m f g) p q e = ⊎_elim (λ h. ends-left g (follow-in f p q h)) (λ h. ends-right f (follow-in g p q h)) (or_cases _ _ e)
  follow-in (f-star {a = a} f) p q e = ⊎_elim (λ h. follow-in f p q h)
      (λ h. record { start = last-in false false f p (and_left (last false false a p) (first false false a q) h); stop = first-in false false f q (and_right (last false false a p) (first false false a q) h) }) (or_cases _ _ e)
  follow-in (f-plus {a = a} f) p q e = ⊎_elim (λ h. follow-in f p q h)
      (λ h. record { start = last-in false false f p (and_left (last false false a p) (first false false a q) h); stop = first-in false false f q (and_right (last false false a p) (first false false a q) h) }) (or_cases _ _ e)
  follow-in (f-opt f) p q e = follow-in f p q e
