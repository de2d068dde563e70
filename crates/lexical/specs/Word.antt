-- Words in any case of letters: labels and keywords. Assumes nothing.
use Rattle.std.specs.Prelude.{Bool, true, false, List, [], ◌∷◌, ℕ, suc, ◌+◌, ◌-◌, eqb, ltb, length, get_or}
use Rattle.text.specs.Choice.{pick}
use Rattle.lexical.specs.Class.{within}

-- a capital letter's small one; any other byte as it is
unfoldable pub lower : ℕ → ℕ
lower b = pick (within 65 90 b) (b + 32) b

-- does the word, in small letters and without NUL, stand in s at i in any case? "labels ignore case"
unfoldable pub stands : List ℕ → ℕ → List ℕ → Bool
stands s i [] = true
stands s i (x ∷ xs) = pick (eqb (lower (get_or s i 0)) x) (stands s (suc i) xs) false

-- are the bytes from start to end the word?
unfoldable pub spells : List ℕ → ℕ → ℕ → List ℕ → Bool
spells s start end w = pick (ltb end start) false (pick (eqb (end - start) (length w)) (stands s start w) false)

-- the keyword true, in small letters
abbrev pub word_true : List ℕ
word_true = 116 ∷ 114 ∷ 117 ∷ 101 ∷ []

-- the keyword false, in small letters
abbrev pub word_false : List ℕ
word_false = 102 ∷ 97 ∷ 108 ∷ 115 ∷ 101 ∷ []
