-- What a pattern matches, without a matcher. Assumes nothing.
use Rattle.std.specs.Prelude.{◌≡◌, true, List, ℕ, suc, ◌<◌, ◌≤◌, length, get_or}
use Rattle.pattern.specs.Class.{Class, accepts}
use Rattle.pattern.specs.Tree.{Re, bol, eol, one, cat, alt, star, plus, opt}

-- the part of the string from i up to j is matched
pub data Matches (s : List ℕ) : Re → ℕ → ℕ → Type 0 where
  m-bol : {i j : ℕ} → i ≡ j → i ≡ 0 → Matches s bol i j
  m-eol : {i j : ℕ} → i ≡ j → i ≡ length s → Matches s eol i j
  m-one : {at : ℕ} {c : Class} {i j : ℕ} → i < length s → accepts c (get_or s i 0) ≡ true → j ≡ suc i → Matches s (one at c) i j
  m-cat : {a b : Re} {i j k : ℕ} → Matches s a i j → Matches s b j k → Matches s (cat a b) i k
  m-left : {a b : Re} {i j : ℕ} → Matches s a i j → Matches s (alt a b) i j
  m-right : {a b : Re} {i j : ℕ} → Matches s b i j → Matches s (alt a b) i j
  m-none : {a : Re} {i j : ℕ} → i ≡ j → Matches s (star a) i j
  m-more : {a : Re} {i j k : ℕ} → Matches s a i j → Matches s (star a) j k → Matches s (star a) i k
  m-plus : {a : Re} {i j k : ℕ} → Matches s a i j → Matches s (star a) j k → Matches s (plus a) i k
  m-skip : {a : Re} {i j : ℕ} → i ≡ j → Matches s (opt a) i j
  m-take : {a : Re} {i j : ℕ} → Matches s a i j → Matches s (opt a) i j

-- "A match anywhere in the string is a yes."
pub record Found (s : List ℕ) (r : Re) : Type 0 where
  pub from : ℕ
  pub to : ℕ
  pub inside : from ≤ length s
  pub matched : Matches s r from to
