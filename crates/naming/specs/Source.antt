-- Whom an assertion names: string expressions where principals stand. Assumes nothing.
use Rattle.std.specs.Prelude.{List, [], ◌∷◌, ◌++◌, ℕ}
use Rattle.record.specs.Query.{Attribute}
use Rattle.syntax.specs.Expr.{Expr}

-- "any string expression", and the place of its "first token that is no bracket"
pub record Source : Type 0 where
  pub place : ℕ
  pub says : Expr

-- string expressions "joined by && and ||, brackets, K-of(list)"
pub data Sources : Type 0 where
  one : Source → Sources
  and : Sources → Sources → Sources
  or : Sources → Sources → Sources
  k_of : ℕ → List Source → Sources

-- the field Licensees, with the constants of a Local-Constants field "earlier in the text"
pub data Licensees : Type 0 where
  missing : Licensees
  empty : Licensees
  given : List Attribute → Sources → Licensees

-- the field Authorizer, with the same
pub record Author : Type 0 where
  pub constants : List Attribute
  pub by : Source

-- its licensees, as often as they stand there and in the text's order
unfoldable pub sources : Sources → List Source
sources (one x) = x ∷ []
sources (and a b) = sources a ++ sources b
sources (or a b) = sources a ++ sources b
sources (k_of k xs) = xs
