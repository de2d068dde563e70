-- What the tokens of a Licensees field with string expressions say (W-203): the expressions of crate naming, production by production, over the tokens
-- of a text, "&& binds tighter". Assumes nothing.
use Rattle.std.specs.Prelude.{◌≡◌, List, [], ◌∷◌, ◌++◌, ℕ}
use Rattle.record.specs.Query.{Attribute}
use Rattle.lexical.specs.Kind
use Rattle.lexical.specs.Number.{number_at}
use Rattle.lexical.specs.declared.token.Token.{Token}
use Rattle.naming.specs.Source.{Source, Sources, one, and, or, k_of, Licensees, empty, given}
use Rattle.grammar.specs.Conditions.{Class, operand, conjunction, whole}
use Rattle.grammar.specs.Trees.{StrTree}

-- the place of the "first token that is no bracket"
pub data Plain : List Token → ℕ → Type 0 where
  plain_here : (t : Token) (ts : List Token) → (t.kind ≡ Kind.OPEN → ⊥) → Plain (t ∷ ts) t.start
  plain-behind : (t : Token) (ts : List Token) (p : ℕ) → t.kind ≡ Kind.OPEN → Plain ts p → Plain (t ∷ ts) p

-- a string expression where a principal stands
pub data SourceTree (s : List ℕ) : List Token → Source → Type 0 where
  source-tree : (ts : List Token) (x : Source) → StrTree s whole ts x.says → Plain ts x.place → SourceTree s ts x

-- "a list being one or more licensees joined by commas"
pub data ListTree (s : List ℕ) : List Token → List Source → Type 0 where
  one-item : (ts : List Token) (x : Source) → SourceTree s ts x → ListTree s ts (x ∷ [])
  more-items : (c : Token) (ts us : List Token) (xs : List Source) (x : Source) → c.kind ≡ Kind.COMMA → ListTree s ts xs → SourceTree s us x → ListTree s (ts ++ c ∷ us) (xs ++ x ∷ [])

-- "names joined by && and ||, brackets, K-of(list) [..]; && binds tighter": operands, those joined by "&&", and these joined by "||", from left to right
pub data PrincTree (s : List ℕ) : Class → List Token → Sources → Type 0 where
  principal-tree : (ts : List Token) (x : Source) → SourceTree s ts x → PrincTree s operand ts (one x)
  threshold-tree : (t u v w : Token) (ts : List Token) (xs : List Source) → t.kind ≡ Kind.DIGITS → u.kind ≡ Kind.OF → v.kind ≡ Kind.OPEN → w.kind ≡ Kind.CLOSE
      → ListTree s ts xs → PrincTree s operand (t ∷ u ∷ v ∷ ts ++ w ∷ []) (k_of (number_at s t.start t.end) xs)
  bracket-tree : (t u : Token) (ts : List Token) (e : Sources) → t.kind ≡ Kind.OPEN → u.kind ≡ Kind.CLOSE → PrincTree s whole ts e → PrincTree s operand (t ∷ ts ++ u ∷ []) e
  once : (ts : List Token) (e : Sources) → PrincTree s operand ts e → PrincTree s conjunction ts e
  both-tree : (t : Token) (ts us : List Token) (e f : Sources) → t.kind ≡ Kind.AND → PrincTree s conjunction ts e → PrincTree s operand us f
      → PrincTree s conjunction (ts ++ t ∷ us) (and e f)
  up : (ts : List Token) (e : Sources) → PrincTree s conjunction ts e → PrincTree s whole ts e
  either-tree : (t : Token) (ts us : List Token) (e f : Sources) → t.kind ≡ Kind.OR → PrincTree s whole ts e → PrincTree s conjunction us f
      → PrincTree s whole (ts ++ t ∷ us) (or e f)

-- <LicenseesExpr>:: "" | <PrincExpr>
pub data LicenseesTree (s : List ℕ) (constants : List Attribute) : List Token → Licensees → Type 0 where
  nobody-tree : LicenseesTree s constants [] empty
  somebody-tree : (ts : List Token) (e : Sources) → PrincTree s whole ts e → LicenseesTree s constants ts (given constants e)
