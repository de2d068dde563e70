-- Which bytes are a pattern, and the tree that they stand for. Assumes nothing.
use Rattle.std.specs.Prelude.{◌≡◌, Bool, true, false, List, [], ◌∷◌, ℕ, ◌+◌, ◌<◌, ◌≤◌, length, get_or}
use Rattle.pattern.specs.Class.{Item, range, Class, any, only, among, besides}
use Rattle.pattern.specs.Tree.{Re, bol, eol, one, cat, alt, star, plus, opt}
use Rattle.pattern.specs.Bytes.{special, opens_name}

-- the byte b stands at i
pub record At (p : List ℕ) (i b : ℕ) : Type 0 where
  pub inside : i < length p
  pub byte : get_or p i 0 ≡ b

-- b stands at i and is itself in a set, or an end of a range: it is no "-", "]" is it only first, and "[" not before . = :
pub record Self (p : List ℕ) (first : Bool) (i b : ℕ) : Type 0 where
  pub at : At p i b
  pub no-dash : b ≡ 45 → ⊥
  pub bracket : b ≡ 93 → first ≡ true
  pub no_name : opens_name p i ≡ false

-- what stands in a set from i on, up to its "]", behind which is j; the flag says that i is directly behind "[" or "[^"
pub data Items (p : List ℕ) : Bool → ℕ → ℕ → List Item → Type 0 where
  i-close : {i j : ℕ} → At p i 93 → j ≡ i + 1 → Items p false i j []
  i-first-dash : {i j : ℕ} {xs : List Item} → At p i 45 → Items p false (i + 1) j xs → Items p true i j (range 45 45 ∷ xs)
  i-last-dash : {i j : ℕ} {xs : List Item} → At p i 45 → At p (i + 1) 93 → Items p false (i + 1) j xs → Items p false i j (range 45 45 ∷ xs)
  i-byte : {f : Bool} {i j b : ℕ} {xs : List Item} → Self p f i b → Items p false (i + 1) j xs → Items p f i j (range b b ∷ xs)
  i-range : {f : Bool} {i j low high : ℕ} {xs : List Item} → Self p f i low → At p (i + 1) 45 → Self p false (i + 2) high → low ≤ high
      → Items p false (i + 3) j xs → Items p f i j (range low high ∷ xs)

-- an atom for one byte, from i up to j
pub data One (p : List ℕ) : ℕ → ℕ → Class → Type 0 where
  o-any : {i j : ℕ} → At p i 46 → j ≡ i + 1 → One p i j any
  o-escape : {i j b : ℕ} → At p i 92 → At p (i + 1) b → special b ≡ true → j ≡ i + 2 → One p i j (only b)
  o-byte : {i j b : ℕ} → At p i b → special b ≡ false → j ≡ i + 1 → One p i j (only b)
  o-set : {i j : ℕ} {xs : List Item} → At p i 91 → i + 1 < length p → (get_or p (i + 1) 0 ≡ 94 → ⊥) → Items p true (i + 1) j xs → One p i j (among xs)
  o-not : {i j : ℕ} {xs : List Item} → At p i 91 → At p (i + 1) 94 → Items p true (i + 2) j xs → One p i j (besides xs)

-- "branches of one or more pieces, joined by |; a piece is ^, $, or an atom with at most one of * + ? behind"
mutual
  pub data Expr (p : List ℕ) : ℕ → ℕ → Re → Type 0 where
    e-one : {i j : ℕ} {a : Re} → Branch p i j a → Expr p i j a
    e-or : {i j k : ℕ} {a b : Re} → Expr p i j a → At p j 124 → Branch p (j + 1) k b → Expr p i k (alt a b)

  pub data Branch (p : List ℕ) : ℕ → ℕ → Re → Type 0 where
    b-one : {i j : ℕ} {a : Re} → Piece p i j a → Branch p i j a
    b-more : {i j k : ℕ} {a b : Re} → Branch p i j a → Piece p j k b → Branch p i k (cat a b)

  pub data Piece (p : List ℕ) : ℕ → ℕ → Re → Type 0 where
    p-bol : {i j : ℕ} → At p i 94 → j ≡ i + 1 → Piece p i j bol
    p-eol : {i j : ℕ} → At p i 36 → j ≡ i + 1 → Piece p i j eol
    p_atom : {i j : ℕ} {a : Re} → Atom p i j a → Piece p i j a
    p-star : {i j k : ℕ} {a : Re} → Atom p i j a → At p j 42 → k ≡ j + 1 → Piece p i k (star a)
    p-plus : {i j k : ℕ} {a : Re} → Atom p i j a → At p j 43 → k ≡ j + 1 → Piece p i k (plus a)
    p_opt : {i j k : ℕ} {a : Re} → Atom p i j a → At p j 63 → k ≡ j + 1 → Piece p i k (opt a)

  pub data Atom (p : List ℕ) : ℕ → ℕ → Re → Type 0 where
    a_one : {i j : ℕ} {c : Class} → One p i j c → Atom p i j (one i c)
    a-group : {i j k : ℕ} {a : Re} → At p i 40 → Expr p (i + 1) j a → At p j 41 → k ≡ j + 1 → Atom p i k a

-- "a pattern over 256 bytes" is none
abbrev pub most_pattern : ℕ
most_pattern = 256

pub record Pattern (p : List ℕ) (r : Re) : Type 0 where
  pub short : length p ≤ most_pattern
  pub whole : Expr p 0 (length p) r
