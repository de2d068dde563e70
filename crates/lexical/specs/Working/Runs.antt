-- The runs of bytes by comparisons, as the code scans them, and that they are the runs by class. Assumes nothing.
use Rattle.std.specs.Prelude.{◌≡◌, refl, Bool, true, false, not, ℕ, ◌<◌, ◌≤◌, T, leb, ltb, get_or}
use Rattle.std.proofs.Common.{sym, ◌∙◌, arith, le-leb, ne_eqb, leb-true, ltb-true, ltb-false}
use Rattle.std.proofs.Math.Path.{ap}
use Rattle.std.proofs.Math.Dec.{eqb}
use Rattle.std.proofs.lemmas.Bool.{lt-leb}
use Rattle.text.specs.Choice.{pick, split}
use Rattle.text.specs.Class.{is_digit, is_letter, is_word}
use Rattle.text.specs.Table.{at}
use Rattle.lexical.specs.Class.{class_of, or, within, BLANK, NEWLINE, LETTER, DIGIT, QUOTE, HASH, NUL}
use Rattle.lexical.specs.Theorems.Classes.{classes, class-rule}
use Rattle.lexical.specs.declared.scan.Run.{Run}
use Rattle.lexical.specs.Run.{BLANKS, WHITE, FREE, WORD, NUMERALS, has_class, in_run}

-- space or tab
unfoldable pub blank : ℕ → Bool
blank b = or (eqb b 32) (eqb b 9)

-- "Whitespace is space, tab, newline"
unfoldable pub white : ℕ → Bool
white b = or (blank b) (eqb b 10)

-- all but newline and NUL
unfoldable pub free : ℕ → Bool
free b = pick (eqb b 10) false (not (eqb b 0))

-- a letter or the underscore
unfoldable pub letter : ℕ → Bool
letter b = or (within 97 122 b) (or (within 65 90 b) (eqb b 95))

-- "digits"
unfoldable pub numeral : ℕ → Bool
numeral b = within 48 57 b

-- a letter, a digit or the underscore
unfoldable pub wordly : ℕ → Bool
wordly b = or (letter b) (numeral b)

-- are two tests equal?
abbrev same : Bool → Bool → Bool
same true b = b
same false b = not b

same-eq : (a b : Bool) → T (same a b) → a ≡ b
same-eq true true t = refl
same-eq true false t = absurd t
same-eq false true t = absurd t
same-eq false false t = refl

module _ (f : ℕ → Bool) where
  -- a test that agrees with the run k at each class of the table
  agrees : Run → ℕ → ℕ → Bool
  agrees k b c = same (f b) (has_class k c)

  -- a test that holds at the bytes of class k, and at no others
  alone : ℕ → ℕ → ℕ → Bool
  alone k b c = same (f b) (eqb c k)

module _ (b : ℕ) (h : b < 256) where
  of-class : (k : ℕ) → eqb (get_or classes b 0) k ≡ eqb (class_of b) k
  of-class k = ap (λ (c : ℕ). eqb c k) (class-rule b h)

  pub blank-class : blank b ≡ eqb (class_of b) BLANK
  unfolding alone blank
  blank-class = same-eq (blank b) _ (at (alone blank BLANK) classes tt b h) ∙ of-class BLANK

  pub letter-class : letter b ≡ eqb (class_of b) LETTER
  unfolding alone letter
  letter-class = same-eq (letter b) _ (at (alone letter LETTER) classes tt b h) ∙ of-class LETTER

  pub numeral-class : numeral b ≡ eqb (class_of b) DIGIT
  unfolding alone numeral
  numeral-class = same-eq (numeral b) _ (at (alone numeral DIGIT) classes tt b h) ∙ of-class DIGIT

  pub newline-class : eqb b 10 ≡ eqb (class_of b) NEWLINE
  unfolding alone
  newline-class = same-eq (eqb b 10) _ (at (alone (λ (x : ℕ). eqb x 10) NEWLINE) classes tt b h) ∙ of-class NEWLINE

  pub quote-class : eqb b 34 ≡ eqb (class_of b) QUOTE
  unfolding alone
  quote-class = same-eq (eqb b 34) _ (at (alone (λ (x : ℕ). eqb x 34) QUOTE) classes tt b h) ∙ of-class QUOTE

  pub hash-class : eqb b 35 ≡ eqb (class_of b) HASH
  unfolding alone
  hash-class = same-eq (eqb b 35) _ (at (alone (λ (x : ℕ). eqb x 35) HASH) classes tt b h) ∙ of-class HASH

  pub nul-class : eqb b 0 ≡ eqb (class_of b) NUL
  unfolding alone
  nul-class = same-eq (eqb b 0) _ (at (alone (λ (x : ℕ). eqb x 0) NUL) classes tt b h) ∙ of-class NUL

  by-class : (k : Run) → has_class k (get_or classes b 0) ≡ in_run k b
  unfolding in_run
  by-class k = ap (has_class k) (class-rule b h)

  pub blank-run : blank b ≡ in_run BLANKS b
  unfolding agrees has_class blank
  blank-run = same-eq (blank b) _ (at (agrees blank BLANKS) classes tt b h) ∙ by-class BLANKS

  pub white-run : white b ≡ in_run WHITE b
  unfolding agrees has_class white blank
  white-run = same-eq (white b) _ (at (agrees white WHITE) classes tt b h) ∙ by-class WHITE

  pub free-run : free b ≡ in_run FREE b
  unfolding agrees has_class free
  free-run = same-eq (free b) _ (at (agrees free FREE) classes tt b h) ∙ by-class FREE

  pub word-run : wordly b ≡ in_run WORD b
  unfolding agrees has_class wordly letter numeral
  word-run = same-eq (wordly b) _ (at (agrees wordly WORD) classes tt b h) ∙ by-class WORD

  pub numeral-run : numeral b ≡ in_run NUMERALS b
  unfolding agrees has_class numeral
  numeral-run = same-eq (numeral b) _ (at (agrees numeral NUMERALS) classes tt b h) ∙ by-class NUMERALS

  word-here : is_word b ≡ in_run WORD b
  unfolding agrees has_class is_word is_letter is_digit
  word-here = same-eq (is_word b) _ (at (agrees is_word WORD) classes tt b h) ∙ by-class WORD

-- what is no byte is in no word
module _ (b : ℕ) (h : 256 ≤ b) where
  other : (n : ℕ) → leb n 255 ≡ true → eqb b n ≡ false
  other n l = ne_eqb b n (λ z. let no : ⊥ = omega (arith, h, z, leb-true n 255 l) in no)

  above : (n : ℕ) → leb n 255 ≡ true → leb b n ≡ false
  above n l = lt-leb b n (omega (arith, h, leb-true n 255 l))

  below : (n : ℕ) → leb n 255 ≡ true → leb n b ≡ true
  below n l = le-leb n b (omega (arith, h, leb-true n 255 l))

  high-run : in_run WORD b ≡ false
  unfolding in_run has_class class_of
  high-run = simp (other, above, below)

  high_word : is_word b ≡ false
  unfolding is_word is_letter is_digit
  high_word = simp (other, above, below)

-- the words of texts
pub word_same : (b : ℕ) → in_run WORD b ≡ is_word b
word_same b = split (ltb b 256) (λ l. sym (word-here b (ltb-true _ _ l))) (λ l. high-run b (ltb-false _ _ l) ∙ sym (high_word b (ltb-false _ _ l)))
