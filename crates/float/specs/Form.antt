-- "text of its form": "an optional "-", digits, optional "." and digits (one or more each time)". Assumes nothing.
use Rattle.std.specs.Prelude.{◌≡◌, Bool, true, false, List, [], ◌∷◌, ◌++◌, ℕ, ◌+◌, ◌≤◌, ◌<◌, length, Float}
use Rattle.text.specs.Scan.{run}
use Rattle.text.specs.Class.{in_class, digit}
use Rattle.text.specs.Digits.{value}
use Rattle.float.specs.Decimal.{decimal}
use Rattle.float.specs.Written.{nought}

-- digits, one or more and nothing else
pub record Digits (ds : List ℕ) : Type 0 where
  pub some : 0 < length ds
  pub all : run (in_class digit) ds ≡ length ds

-- the text has the digits w before the point and f behind it
pub data Plain : List ℕ → List ℕ → List ℕ → Type 0 where
  whole : {w : List ℕ} → Digits w → Plain w w []
  point : {w f : List ℕ} → Digits w → Digits f → Plain (w ++ (46 ∷ f)) w f

pub data Form : List ℕ → Bool → List ℕ → List ℕ → Type 0 where
  plain : {s w f : List ℕ} → Plain s w f → Form s false w f
  minus : {s w f : List ℕ} → Plain s w f → Form (45 ∷ s) true w f

-- "of at most 18 digits become the nearest 32-bit float", "digits as one integer over a power of ten"; "longer or malformed text converts to zero"
pub data Becomes (s : List ℕ) : Float → Type 0 where
  short : (n : Bool) (w f : List ℕ) → Form s n w f → length w + length f ≤ 18 → Becomes s (decimal n (value (w ++ f)) (length f))
  long : (n : Bool) (w f : List ℕ) → Form s n w f → 18 < length w + length f → Becomes s nought
  malformed : ((n : Bool) (w f : List ℕ) → Form s n w f → ⊥) → Becomes s nought
