-- Working laws: what a byte of a class is, and words from a place on. Assumes nothing.
use Rattle.std.specs.Prelude.{◌≡◌, Bool, false, not, List, ℕ, ◌+◌, ◌<◌, ◌≤◌, eqb, leb, ◌-◌, length, take, drop}
use Rattle.std.proofs.Math.Path.{refl, ap}
use Rattle.std.proofs.Common.{sym, ◌∙◌, arith, take_all, length-drop}
use Rattle.std.proofs.Math.Bool.{true}
use borrow.Author.Tests.{ne_eqb, le-leb, lt-leb}
use Rattle.text.specs.Choice.{pick}
use Rattle.text.specs.Scan.{run, past, past-within}
use Rattle.text.specs.declared.Class.{Class}
use Rattle.text.specs.declared.Class.TheVariants.{Plain, Digit, Word}
use Rattle.text.specs.Class.{is_digit, is_letter, is_word, is_plain, in_class}

pick_same : (t : Bool) → t ≡ pick t true false
pick_same true = refl
pick_same false = refl

module _ (b : ℕ) where
  pub word_small : 97 ≤ b → leb b 122 ≡ is_word b
  unfolding is_word is_letter is_digit
  word_small h = rw (le-leb 97 b h, le-leb 48 b (omega (arith, h)), lt-leb b 57 (omega (arith, h)), ne_eqb b 95 (λ e. omega (arith, h, e))) (pick_same (leb b 122))

  module _ (l : b < 97) where
    pub word-digit : b < 58 → leb 48 b ≡ is_word b
    unfolding is_word is_letter is_digit
    word-digit h = rw (lt-leb 97 b l, lt-leb 65 b (omega (arith, h)), le-leb b 57 (omega (arith, h)), ne_eqb b 95 (λ e. omega (arith, h, e))) (pick_same (leb 48 b) ∙ ap (λ (t : Bool). pick t true false) (pick_same (leb 48 b)))

    module _ (h : 58 ≤ b) where
      pub word-mark : b ≡ 95 → true ≡ is_word b
      unfolding is_word is_letter is_digit
      word-mark e = rw e refl

      pub word-letter : (b ≡ 95 → ⊥) → (r : Bool) → r ≡ is_letter b → r ≡ is_word b
      unfolding is_word is_digit
      word-letter n r e = rw (sym e, lt-leb b 57 (omega (arith, h)), le-leb 48 b (omega (arith, h)), ne_eqb b 95 n) (pick_same r)

module _ (k : Class) (b : ℕ) where
  pub class-plain : k ≡ Plain → not (eqb b 0) ≡ in_class k b
  unfolding in_class is_plain
  class-plain h = rw h

  module _ (r : Bool) where
    pub class-digit : k ≡ Digit → r ≡ is_digit b → r ≡ in_class k b
    unfolding in_class
    class-digit h e = rw h e

    pub class-word : k ≡ Word → r ≡ is_word b → r ≡ in_class k b
    unfolding in_class
    class-word h e = rw h e

-- a word from a place on
pub word-from : (s : List ℕ) (at k : ℕ) → at < length s → k ≡ run (in_class Word) (take (length s - at) (drop at s)) → at + k ≡ past is_word s at
unfolding past in_class
word-from s at k h e =
    let w : take (length s - at) (drop at s) ≡ drop at s = take_all (length s - at) (drop at s) (rw (length-drop at s) (omega arith)) in
    ap (λ (n : ℕ). at + n) (e ∙ ap (run (in_class Word)) w)

pub word-fits : (s : List ℕ) (at k : ℕ) → at < length s → k ≡ run (in_class Word) (take (length s - at) (drop at s)) → at + k ≤ length s
word-fits s at k h e = rw (word-from s at k h e) (past-within is_word s at (omega arith))
