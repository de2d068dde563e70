-- Scanning a list by a test of its elements. Code scans by an index, so `past p s i` is the index at which a scan from i stops,
-- and a loop goes by three laws: one step, a stop at an element, the end. Assumes nothing.
use Rattle.std.specs.Prelude.{◌≡◌, refl, Bool, true, false, List, [], ◌∷◌, ℕ, suc, ◌+◌, ◌<◌, ◌≤◌, length, get_or, drop}
use Rattle.std.proofs.Common.{ap, ◌∙◌, sym, arith, add-one, add-zero, add-suc, suc-add, length-drop, drop_of_length-le}
use Rattle.std.proofs.Math.Nat.{zero-add}
use Rattle.std.proofs.Math.Seq.{drop-cons}
use Rattle.text.specs.Choice.{pick, split}

-- how many elements at the front pass p
abbrev pub run : (ℕ → Bool) → List ℕ → ℕ
run p [] = 0
run p (x ∷ xs) = pick (p x) (suc (run p xs)) 0

-- the first index at or after i that does not pass p, or the end
unfoldable pub past : (ℕ → Bool) → List ℕ → ℕ → ℕ
past p s i = i + run p (drop i s)

module _ (p : ℕ → Bool) (s : List ℕ) (i : ℕ) where
  pub past_more : i < length s → p (get_or s i 0) ≡ true → past p s i ≡ past p s (i + 1)
  unfolding past
  past_more h e = rw (add-one, drop-cons s i 0, e) (simp (add-suc, suc-add))

  pub past_stop : i < length s → p (get_or s i 0) ≡ false → past p s i ≡ i
  unfolding past
  past_stop h e = rw (drop-cons s i 0, e) (add-zero i)

  pub past_end : length s ≤ i → past p s i ≡ i
  unfolding past
  past_end h = rw (drop_of_length-le s h) (add-zero i)

  pub past-front : past p s 0 ≡ run p s
  unfolding past
  past-front = zero-add (run p s)

-- the end of a run is not before its start
pub past-from : (p : ℕ → Bool) (s : List ℕ) (i : ℕ) → i ≤ past p s i
unfolding past
past-from p s i = omega arith

run_length : (p : ℕ → Bool) (xs : List ℕ) → run p xs ≤ length xs
run_length p [] = omega arith
run_length p (x ∷ xs) = split (p x) (λ e. rw e (omega (arith, run_length p xs))) (λ e. rw e (omega arith))

-- nor behind the text's, where it starts within
pub past-within : (p : ℕ → Bool) (s : List ℕ) (i : ℕ) → i ≤ length s → past p s i ≤ length s
unfolding past
past-within p s i h = omega (arith, run_length p (drop i s), length-drop i s)

-- tests that agree have the same runs
run-alike : (p q : ℕ → Bool) → ((b : ℕ) → p b ≡ q b) → (xs : List ℕ) → run p xs ≡ run q xs
run-alike p q f [] = refl
run-alike p q f (x ∷ xs) = rw (f x, run-alike p q f xs)

pub past-alike : (p q : ℕ → Bool) → ((b : ℕ) → p b ≡ q b) → (s : List ℕ) (i : ℕ) → past p s i ≡ past q s i
unfolding past
past-alike p q f s i = ap (λ (k : ℕ). i + k) (run-alike p q f (drop i s))

-- the same as steps of a loop whose invariant is `past p s i ≡ r`: these `search` finds by itself
module _ (p : ℕ → Bool) (s : List ℕ) (i r : ℕ) where
  pub scan-more : (t : Bool) → t ≡ p (get_or s i 0) → t ≡ true → i < length s → past p s i ≡ r → past p s (i + 1) ≡ r
  scan-more t e f h inv = sym (past_more p s i h (sym e ∙ f)) ∙ inv

  pub scan-stop : (t : Bool) → t ≡ p (get_or s i 0) → t ≡ false → i < length s → past p s i ≡ r → i ≡ r
  scan-stop t e f h inv = sym (past_stop p s i h (sym e ∙ f)) ∙ inv

  pub scan-end : length s ≤ i → past p s i ≡ r → i ≡ r
  scan-end h inv = sym (past_end p s i h) ∙ inv

pub ruleset scan = (scan-more, scan-stop, scan-end)
