-- The grammars of Authorizer and Licensees where a principal is a string expression (W-203), over the kinds of token that Conditions has.
-- Assumes nothing.
use Rattle.std.specs.Prelude.{List, [], ◌∷◌, ◌++◌, ℕ}
use Rattle.lexical.specs.Kind
use Rattle.grammar.specs.Conditions.{whole, Str}

-- "Authorizer and Licensees may hold any string expression": <AuthID>:: <StrEx>
abbrev pub Author : List ℕ → Type 0
Author ks = Str whole ks

-- <PrincList>:: <StrEx> | <PrincList> "," <PrincList>
pub data PrincList : List ℕ → Type 0 where
  one : (ks : List ℕ) → Str whole ks → PrincList ks
  comma : (ks ls : List ℕ) → PrincList ks → PrincList ls → PrincList (ks ++ Kind.COMMA ∷ ls)

-- <PrincExpr>:: "(" <PrincExpr> ")" | <PrincExpr> "&&" <PrincExpr> | <PrincExpr> "||" <PrincExpr> | <K>"-of(" <PrincList> ")" | <StrEx>
pub data PrincExpr : List ℕ → Type 0 where
  bracket : (ks : List ℕ) → PrincExpr ks → PrincExpr (Kind.OPEN ∷ ks ++ Kind.CLOSE ∷ [])
  both : (ks ls : List ℕ) → PrincExpr ks → PrincExpr ls → PrincExpr (ks ++ Kind.AND ∷ ls)
  either : (ks ls : List ℕ) → PrincExpr ks → PrincExpr ls → PrincExpr (ks ++ Kind.OR ∷ ls)
  threshold : (ks : List ℕ) → PrincList ks → PrincExpr (Kind.DIGITS ∷ Kind.OF ∷ Kind.OPEN ∷ ks ++ Kind.CLOSE ∷ [])
  principal : (ks : List ℕ) → Str whole ks → PrincExpr ks

-- <LicenseesExpr>:: "" | <PrincExpr>
pub data Licensees : List ℕ → Type 0 where
  nobody : Licensees []
  somebody : (ks : List ℕ) → PrincExpr ks → Licensees ks
