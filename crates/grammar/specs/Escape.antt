-- What the bytes between a literal's quotes give, by document 01's list of escapes: no reader in sight. 92 is the backslash, 34 the quote.
-- Assumes nothing.
use Rattle.std.specs.Prelude.{◌≡◌, Bool, true, false, List, [], ◌∷◌, ℕ, ◌+◌, ◌-◌, ◌*◌, ◌≤◌, eqb, leb}
use Rattle.text.specs.Choice.{pick}

-- an octal digit, "0" to "7"
unfoldable pub octal : ℕ → Bool
octal b = pick (leb 48 b) (leb b 55) false

-- "Whitespace is space, tab, newline"
unfoldable pub white : ℕ → Bool
white b = pick (eqb b 32) true (pick (eqb b 9) true (eqb b 10))

-- does the first byte pass the test? Where there is none, the closing quote stands there, and it doesn't
abbrev pub leads : (ℕ → Bool) → List ℕ → Bool
leads p [] = false
leads p (x ∷ xs) = p x

-- are the first two bytes octal digits?
abbrev pub two_octal : List ℕ → Bool
two_octal [] = false
two_octal (c ∷ xs) = pick (octal c) (leads octal xs) false

-- "\n \r \t \f"
pub data Control : ℕ → ℕ → Type 0 where
  newline : Control 110 10
  return : Control 114 13
  tab : Control 116 9
  feed : Control 102 12

-- "drops whitespace up to the next other character"
pub data Dropped : List ℕ → List ℕ → Type 0 where
  stopped : (xs : List ℕ) → leads white xs ≡ false → Dropped xs xs
  dropped : (b : ℕ) (xs zs : List ℕ) → white b ≡ true → Dropped xs zs → Dropped (b ∷ xs) zs

-- a byte behind a backslash that none of the other lines speaks of: no newline, no NUL, none of n r t f, not "0", and no octal digit before two more
pub data Other (b : ℕ) (xs : List ℕ) : Type 0 where
  other_byte : (b ≡ 0 → ⊥) → (b ≡ 10 → ⊥) → (b ≡ 110 → ⊥) → (b ≡ 114 → ⊥) → (b ≡ 116 → ⊥) → (b ≡ 102 → ⊥) → (b ≡ 48 → ⊥)
      → pick (octal b) (two_octal xs) false ≡ false → Other b xs

-- a byte that stands for itself: no quote, no backslash; "An unescaped newline or return, or a byte 0 anywhere, is illegal."
pub data Plain (b : ℕ) : Type 0 where
  plain_byte : (b ≡ 34 → ⊥) → (b ≡ 92 → ⊥) → (b ≡ 0 → ⊥) → (b ≡ 10 → ⊥) → (b ≡ 13 → ⊥) → Plain b

-- the value of three octal digits
abbrev pub octal_value : ℕ → ℕ → ℕ → ℕ
octal_value b c d = (b - 48) * 64 + (c - 48) * 8 + (d - 48)

-- the bytes between the quotes, and the bytes that they give
pub data Gives : List ℕ → List ℕ → Type 0 where
  ends : Gives [] []
  -- a byte that is no escape
  plain : (b : ℕ) (xs ys : List ℕ) → Plain b → Gives xs ys → Gives (b ∷ xs) (b ∷ ys)
  -- "\n \r \t \f"
  control : (b c : ℕ) (xs ys : List ℕ) → Control b c → Gives xs ys → Gives (92 ∷ b ∷ xs) (c ∷ ys)
  -- "backslash-newline drops whitespace up to the next other character"
  joined : (xs zs ys : List ℕ) → Dropped xs zs → Gives zs ys → Gives (92 ∷ 10 ∷ xs) ys
  -- ""\0" with one [..] more octal digit [..], longest reading, [..] that byte"
  one_more : (c : ℕ) (xs ys : List ℕ) → octal c ≡ true → (c ≡ 48 → ⊥) → leads octal xs ≡ false → Gives xs ys → Gives (92 ∷ 48 ∷ c ∷ xs) ((c - 48) ∷ ys)
  -- ""\0" with [..] two more octal digits, or three octal digits starting 1 to 7"; "Above \377 no token"
  three : (b c d : ℕ) (xs ys : List ℕ) → octal b ≡ true → octal c ≡ true → octal d ≡ true → 1 ≤ octal_value b c d → octal_value b c d ≤ 255
      → Gives xs ys → Gives (92 ∷ b ∷ c ∷ d ∷ xs) (octal_value b c d ∷ ys)
  -- "\0, \00, \000 give "0", "00", "000"", longest reading
  zero-1 : (xs ys : List ℕ) → leads octal xs ≡ false → Gives xs ys → Gives (92 ∷ 48 ∷ xs) (48 ∷ ys)
  zero-2 : (xs ys : List ℕ) → leads octal xs ≡ false → Gives xs ys → Gives (92 ∷ 48 ∷ 48 ∷ xs) (48 ∷ 48 ∷ ys)
  zero-3 : (xs ys : List ℕ) → Gives xs ys → Gives (92 ∷ 48 ∷ 48 ∷ 48 ∷ xs) (48 ∷ 48 ∷ 48 ∷ ys)
  -- "any other backslash vanishes"
  other : (b : ℕ) (xs ys : List ℕ) → Other b xs → Gives xs ys → Gives (92 ∷ b ∷ xs) (b ∷ ys)
