-- Literals that are left open: where the code has passed a literal's plain bytes and not its end, it gives a next line that has bytes. Assumes nothing.
use Rattle.std.specs.Prelude.{◌≡◌, refl, List, ℕ, ◌+◌, ◌<◌, eqb, leb, length, get_or}
use Rattle.std.proofs.Common.{arith}
use borrow.Author.Tests.{eq-eqb, ne_eqb}
use Rattle.text.specs.Choice.{pick}
use Rattle.text.specs.Scan.{past}
use Rattle.lexical.specs.Theorems.Bounds.{chosen}
use Rattle.lexical.specs.Kind
use Rattle.lexical.specs.Literal.{literal_end}
use Rattle.lexical.specs.Run.{in_run, FREE, NUMERALS}
use Rattle.lexical.specs.Token.{token, end_of, illegal_at, next_line, float_end, number_token}
use Rattle.lexical.specs.Line.{rest_of_line, lines_from}
use Rattle.lexical.specs.declared.token.Token.{Token}

-- the literal at i, from the unit at e on
unfoldable pub literal_from : List ℕ → ℕ → ℕ → Token
literal_from s i e = pick (eqb (literal_end s e) 0) (illegal_at i) (token Kind.LITERAL i (literal_end s e))

-- a token as it is, but an open literal to its end
unfoldable pub completed : List ℕ → Token → Token
completed s t = pick (eqb t.kind Kind.NEXT) (pick (eqb t.start t.end) t (literal_from s t.start t.end)) t

-- what comes behind an open literal's plain bytes, or in the lines from `end` on
unfoldable pub below_of : List ℕ → ℕ → ℕ → ℕ → Token
below_of s mode start end = pick (eqb start end) (lines_from s mode end) (literal_from s start end)

module _ (s : List ℕ) (t : Token) where
  pub completed-other : (t.kind ≡ Kind.NEXT → ⊥) → completed s t ≡ t
  unfolding completed
  completed-other n = simp (ne_eqb _ _ n)

  module _ (k : t.kind ≡ Kind.NEXT) where
    pub completed-line : t.start ≡ t.end → completed s t ≡ t
    unfolding completed
    completed-line e = simp (eq-eqb _ _ k, eq-eqb _ _ e)

    pub completed-open : (t.start ≡ t.end → ⊥) → completed s t ≡ literal_from s t.start t.end
    unfolding completed
    completed-open n = simp (eq-eqb _ _ k, ne_eqb _ _ n)

-- what is no next line
Other : Token → Type 0
Other t = t.kind ≡ Kind.NEXT → ⊥

above : (k : ℕ) → Kind.NEXT < k → k ≡ Kind.NEXT → ⊥
above k l z = let no : ⊥ = omega (arith, l, z) in no

illegal : Kind.ILLEGAL ≡ Kind.NEXT → ⊥
illegal z = let no : ⊥ = omega (arith, z) in no

pub literal-other : (s : List ℕ) (i e : ℕ) → (literal_from s i e).kind ≡ Kind.NEXT → ⊥
unfolding literal_from Other
literal-other s i e = chosen Other (eqb (literal_end s e) 0) (illegal_at i) (token Kind.LITERAL i (literal_end s e)) (λ q. illegal) (λ q. above Kind.LITERAL (omega arith))

pub number-other : (s : List ℕ) (i : ℕ) → (number_token s i).kind ≡ Kind.NEXT → ⊥
unfolding number_token Other
number-other s i =
    let e : ℕ = past (in_run NUMERALS) s i in
    chosen Other (eqb (float_end s e) e) (token Kind.DIGITS i e) (token Kind.FLOAT i (float_end s e)) (λ q. above Kind.DIGITS (omega arith)) (λ q. above Kind.FLOAT (omega arith))

-- the rest of a line holds no literal
Kept : List ℕ → Token → Type 0
Kept s t = completed s t ≡ t

pub rest-kept : (s : List ℕ) (i : ℕ) → completed s (rest_of_line s i) ≡ rest_of_line s i
unfolding rest_of_line Kept
rest-kept s i =
    let e : ℕ = past (in_run FREE) s i in
    chosen (Kept s) (leb (length s) e) (end_of s) (pick (eqb (get_or s e 0) 0) (illegal_at e) (next_line (e + 1))) (λ q. completed-other s (end_of s) (λ z. let no : ⊥ = omega (arith, z) in no))
    (λ q. chosen (Kept s) (eqb (get_or s e 0) 0) (illegal_at e) (next_line (e + 1)) (λ u. completed-other s (illegal_at e) illegal) (λ u. completed-line s (next_line (e + 1)) refl refl))
